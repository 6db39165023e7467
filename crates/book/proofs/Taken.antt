-- Fields taken one after the other: enough bytes are left for the others.
use Rattle.std.proofs.Common.{ℕ, ◌+◌, ◌/◌, ◌≤◌, Bool, true, false, cond, List, ◌∷◌, length, drop, ap, arith}
use Rattle.std.proofs.lemmas.List.{length-drop}
use Rattle.book.specs.Layout.{Field, width}
use Rattle.book.specs.Form.{marked, span}
use Rattle.book.specs.Reading.{Moved}

module _ (f : Field) (L : List Field) (m : ℕ) (bs : List ℕ) where
  behind_length : (t : Bool) (n : ℕ) → cond t (width f) 0 + n ≤ length bs → n ≤ length (cond t (drop (width f) bs) bs)
  behind_length true n l = let d = length-drop (width f) bs in omega arith
  behind_length false n l = omega arith

  pub length_left : (m' : ℕ) (bs' : List ℕ) → Moved (width f) m bs m' bs' → span (f ∷ L) m ≤ length bs → span L m' ≤ length bs'
  length_left m' bs' moved l =
      let h = behind_length (marked m) (span L (m / 2)) l in
      let e = ap (span L) moved.0 in
      let d = ap length moved.1 in
      omega arith
