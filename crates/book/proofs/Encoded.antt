-- A book passes exactly when it is the encoding of records that keep the form's rules.
use Rattle.std.proofs.Common.{◌≡◌, ℕ, zero, suc, ◌<◌, ◌≤◌, Bool, true, false, cond, not, ◌||◌, eqb, ltb, List, [], ◌∷◌, ◌++◌, length, get_or, take, drop, Some, None, Ok, Err, Option, Result, sym, refl, ap, ◌∙◌, subst, ap₂, arith, w8, Fits}
use Rattle.std.specs.Int.Digits.{AllBelowBase}
use Rattle.std.specs.List.{flat_map}
use Rattle.std.proofs.ByRecursion.{All-take, All-drop}
use Rattle.std.proofs.lemmas.List.{take_at, drop_at, length-append, length-drop, length-take-le, take-append-drop}
use Rattle.std.proofs.lemmas.Bool.{eqb-true, eq-eqb, ne_eqb, le-ltb, ltb-false, or_parts, or_from, not-false}
use Rattle.book.specs.declared.phase.Phase.{Phase}
use Rattle.book.specs.declared.refusal.Refusal.{Refusal}
use Rattle.book.specs.declared.refusal.Refusal.TheVariants.{Size, Version}
use Rattle.book.specs.declared.refusal.Fault.{Fault}
use Rattle.book.specs.Layout.{kind_of, limit, layout, needs_first}
use Rattle.book.specs.declared.contents.Records.{Records}
use Rattle.book.specs.Contents.{Record, AType, ARole, AGroup, AView, ASubject, nothing, count, phase_of, filed_all}
use Rattle.book.specs.Encoding.{fields_of, map_of, together, encode_record, encode}
use Rattle.book.specs.Form.{marked, span, pieces, first_wrong, Cut, whole, broken, cut, record_from, State, start, advanced, prepended, after_fields, after_cut, records_in, after_opening, form, filing, reading}
use Rattle.book.specs.FormRules.{Next, Ordered, Formed}
use Rattle.book.specs.FormLaws.{PassesAsEncoded, Exactly}
use Rattle.book.proofs.Pieces.{Fields, Fine, map_below, span_is, pieces_back, none_wrong, fine_pieces, map_back, together_back}
use Rattle.book.proofs.Fieldwise.{from_fields, to_fields, phase_from, place_from}
use Rattle.book.proofs.Cuts.{Whole, cut_whole, whole_cut, fit_below, needed, unfit_not}

ok_same : (rs ss : List Record) → ◌≡◌ {A = Result (List Record) Fault} (Ok rs) (Ok ss) → rs ≡ ss
ok_same rs ss e = cc

pub not_ok : (f : Fault) (rs : List Record) → ◌≡◌ {A = Result (List Record) Fault} (Err f) (Ok rs) → ⊥
not_ok f rs e = let z : ◌≡◌ {A = ℕ} 0 1 = cc in omega arith

pub prepended_ok : (r : Record) (o : Result (List Record) Fault) (rs : List Record) → prepended r o ≡ Ok rs → (ss : List Record) × (o ≡ Ok ss) × (rs ≡ r ∷ ss)
prepended_ok r (Ok ss) rs e = (ss, refl, sym (ok_same (r ∷ ss) rs e))
prepended_ok r (Err f) rs e = absurd (not_ok f rs e)

-- ---- what was read is what is written

-- one record: its bytes, its length and that it may come next
read_one : (s : State) (k m : ℕ) (bs : List ℕ) (p : Phase) (size : ℕ) → AllBelowBase 256 (k ∷ m ∷ bs)
    → Whole s.phase (λ p. count p s.contents) (k ∷ m ∷ bs) p size → first_wrong s.contents (layout p) m bs ≡ None
    → (encode_record (record_from p s.place (pieces (layout p) m bs)) ≡ take size (k ∷ m ∷ bs)) × Next s (record_from p s.place (pieces (layout p) m bs))
read_one s k m bs p size u w n =
    let L = layout p in
    let x = w.extent in
    let size_is = x.size_is in
    let long = x.long in
    let fs = pieces L m bs in
    let at = s.place in
    let r = record_from p at fs in
    let room : span L m ≤ length bs = omega arith in
    let fine = fine_pieces s.contents L m bs room u.1.1 n in
    let made = from_fields s.contents p at fs fine (needed p m bs x.fit room) in
    let e : size ≡ suc (suc (span L m)) = omega arith in (
      ap₂ (λ q fs. kind_of q ∷ map_of fs ∷ together fs) (phase_from p at fs) made.0
          ∙ ap₂ (λ k b. k ∷ map_of fs ∷ b) (sym w.kind) (together_back L m bs)
          ∙ ap (λ j. k ∷ j ∷ take (span L m) bs) (map_back L m bs room (fit_below p m x.fit))
          ∙ ap (λ j. take j (k ∷ m ∷ bs)) (sym e),
      record {
        rising = subst (λ q. kind_of s.phase ≤ kind_of q) (sym (phase_from p at fs)) w.rising;
        room = subst (λ q. count q s.contents < limit q) (sym (phase_from p at fs)) x.room;
        placed = place_from p at fs;
        ranged = made.1;
      },
    )

-- what was read by n records is what is written
abbrev Written : ℕ → Type 0
Written n = (s : State) (bs : List ℕ) (rs : List Record) → length bs ≤ n → AllBelowBase 256 bs → records_in n s bs ≡ Ok rs → (bs ≡ flat_map encode_record rs) × Ordered s rs

-- one record more
module _ (n : ℕ) (later : Written n) (s : State) (k m : ℕ) (bs : List ℕ) (rs : List Record) (l : length (k ∷ m ∷ bs) ≤ suc n) (u : AllBelowBase 256 (k ∷ m ∷ bs)) where
  fields_passed : (p : Phase) (size : ℕ) → Whole s.phase (λ p. count p s.contents) (k ∷ m ∷ bs) p size → (o : Option Refusal)
      → first_wrong s.contents (layout p) m bs ≡ o → after_fields (records_in n) s (k ∷ m ∷ bs) p size o ≡ Ok rs → (k ∷ m ∷ bs ≡ flat_map encode_record rs) × Ordered s rs
  fields_passed p size w (Some r) q h = absurd (not_ok _ rs h)
  fields_passed p size w None q h =
      let fs = pieces (layout p) m bs in
      let r = record_from p s.place fs in
      let one = read_one s k m bs p size u w q in
      let rest = drop size (k ∷ m ∷ bs) in
      let split = prepended_ok r (records_in n (advanced s size p r) rest) rs h in
      let a = w.extent.size_is in
      let b = w.extent.long in
      let d = length-drop size (k ∷ m ∷ bs) in
      let t = length-take-le size (k ∷ m ∷ bs) b in
      let length_is : size ≡ length (encode_record r) = sym t ∙ ap length (sym one.0) in
      let then = later (advanced s size p r) rest split.0 (omega arith) (All-drop (λ d. d < 256) size (k ∷ m ∷ bs) u) split.1 in
      let order : Ordered (advanced s (length (encode_record r)) (phase_of r) r) split.0 =
      subst (λ z. Ordered (advanced s z (phase_of r) r) split.0) length_is (subst (λ q. Ordered (advanced s size q r) split.0) (sym (phase_from p s.place fs)) then.1) in
      subst (λ rs. (k ∷ m ∷ bs ≡ flat_map encode_record rs) × Ordered s rs) (sym split.2)
      (sym (take-append-drop size (k ∷ m ∷ bs)) ∙ ap₂ (λ x y. x ++ y) (sym one.0) then.0, (one.1, order))

  record_passed : (x : Cut) → cut s.phase (λ p. count p s.contents) (k ∷ m ∷ bs) ≡ x → after_cut (records_in n) s (k ∷ m ∷ bs) x ≡ Ok rs
      → (k ∷ m ∷ bs ≡ flat_map encode_record rs) × Ordered s rs
  record_passed (broken r) q h = absurd (not_ok _ rs h)
  record_passed (whole p size) q h =
      fields_passed p size (cut_whole s.phase (λ p. count p s.contents) (k ∷ m ∷ bs) p size q) (first_wrong s.contents (layout p) m bs) refl h

-- a lone kind byte is no record
kind_alone : (n : ℕ) (s : State) (k : ℕ) (rs : List Record) (x : Cut) → cut s.phase (λ p. count p s.contents) (k ∷ []) ≡ x
    → after_cut (records_in n) s (k ∷ []) x ≡ Ok rs → ⊥
kind_alone n s k rs (broken r) q h = not_ok _ rs h
kind_alone n s k rs (whole p size) q h =
    let w = (cut_whole s.phase (λ p. count p s.contents) (k ∷ []) p size q).extent in
    let a = w.size_is in
    let b = w.long in
    omega arith

nothing_read : (s : State) (rs : List Record) → ◌≡◌ {A = Result (List Record) Fault} (Ok []) (Ok rs) → ([] ≡ flat_map encode_record rs) × Ordered s rs
nothing_read s rs e = subst (λ rs. ([] ≡ flat_map encode_record rs) × Ordered s rs) (ok_same [] rs e) (refl, tt)

written : (n : ℕ) → Written n
written zero s [] rs l u e = nothing_read s rs e
written zero s (k ∷ bs) rs l u e = absurd (omega arith)
written (suc n) s [] rs l u e = nothing_read s rs e
written (suc n) s (k ∷ []) rs l u e = absurd (kind_alone n s k rs (cut s.phase (λ p. count p s.contents) (k ∷ [])) refl e)
written (suc n) s (k ∷ m ∷ bs) rs l u e =
    record_passed n (written n) s k m bs rs l u (cut s.phase (λ p. count p s.contents) (k ∷ m ∷ bs)) refl e

-- ---- what is written is read

-- a view's map has the bit of its controlled type
first_there : (r : Record) → needs_first (phase_of r) ≡ true → marked (map_of (fields_of r)) ≡ true
first_there (AType r) e = absurd (let z : ◌≡◌ {A = ℕ} 0 1 = cc in omega arith)
first_there (ARole r) e = absurd (let z : ◌≡◌ {A = ℕ} 0 1 = cc in omega arith)
first_there (AGroup r) e = absurd (let z : ◌≡◌ {A = ℕ} 0 1 = cc in omega arith)
first_there (AView r) e = eq-eqb _ _ (omega arith)
first_there (ASubject r) e = absurd (let z : ◌≡◌ {A = ℕ} 0 1 = cc in omega arith)

under_front : (xs ys : List ℕ) → AllBelowBase 256 (xs ++ ys) → AllBelowBase 256 xs
under_front xs ys u = subst (AllBelowBase 256) (take_at xs ys (length xs) refl) (All-take (λ d. d < 256) (length xs) (xs ++ ys) u)

under_back : (xs ys : List ℕ) → AllBelowBase 256 (xs ++ ys) → AllBelowBase 256 ys
under_back xs ys u = subst (AllBelowBase 256) (drop_at xs ys (length xs) refl) (All-drop (λ d. d < 256) (length xs) (xs ++ ys) u)

-- the record at the front of what is written
module _ (s : State) (r : Record) (more : List ℕ) (next : Next s r) (u : AllBelowBase 256 (encode_record r)) where
  there : Fields (Fine s.contents) (layout (phase_of r)) (fields_of r)
  there = (to_fields s.contents r next.ranged u).0

  front_whole : Whole s.phase (λ p. count p s.contents) (encode_record r ++ more) (phase_of r) (length (encode_record r))
  front_whole =
      let L = layout (phase_of r) in
      let fs = fields_of r in
      let is = span_is (Fine s.contents) L fs there in
      let l = length-append (encode_record r) more in
      record {
        rising = next.rising;
        kind = refl;
        extent = record {
          room = next.room;
          fit = unfit_not (phase_of r) (map_of fs) (map_below (Fine s.contents) L fs there) (first_there r);
          size_is = omega arith;
          long = omega arith;
        };
      }

  front_record : record_from (phase_of r) s.place (pieces (layout (phase_of r)) (map_of (fields_of r)) (together (fields_of r) ++ more)) ≡ r
  front_record =
      ap (record_from (phase_of r) s.place) (pieces_back (Fine s.contents) (layout (phase_of r)) (fields_of r) more there)
      ∙ ap (λ at. record_from (phase_of r) at (fields_of r)) (sym next.placed)
      ∙ (to_fields s.contents r next.ranged u).1

  front_read : (n : ℕ) → records_in (suc n) s (encode_record r ++ more) ≡ prepended r (records_in n (advanced s (length (encode_record r)) (phase_of r) r) more)
  front_read n =
      let p = phase_of r in
      let bs = encode_record r ++ more in
      let size = length (encode_record r) in
      ap (after_cut (records_in n) s bs) (whole_cut s.phase (λ p. count p s.contents) bs p size front_whole)
      ∙ ap (after_fields (records_in n) s bs p size) (none_wrong s.contents (layout p) (fields_of r) more there)
      ∙ ap₂ (λ r bs. prepended r (records_in n (advanced s size p r) bs)) front_record (drop_at (encode_record r) more size refl)

pub read_back : (n : ℕ) (s : State) (rs : List Record) → length (flat_map encode_record rs) ≤ n → AllBelowBase 256 (flat_map encode_record rs) → Ordered s rs
    → records_in n s (flat_map encode_record rs) ≡ Ok rs
read_back zero s [] l u o = refl
read_back (suc n) s [] l u o = refl
read_back zero s (r ∷ rs) l u o = absurd (omega arith)
read_back (suc n) s (r ∷ rs) l u o =
    let more = flat_map encode_record rs in
    let a = length-append (encode_record r) more in
    front_read s r more o.0 (under_front (encode_record r) more u) n
    ∙ ap (prepended r) (read_back n (advanced s (length (encode_record r)) (phase_of r) r) rs (omega arith) (under_back (encode_record r) more u) o.1)

-- ---- the book as a whole

pub opens : (a b : Bool) (bs : List ℕ) (rs : List Record) → after_opening (cond a (Some Size) (cond b (Some Version) None)) bs ≡ Ok rs
    → (a ≡ false) × (b ≡ false) × (records_in (length bs) start (drop 1 bs) ≡ Ok rs)
opens true b bs rs e = absurd (not_ok _ rs e)
opens false true bs rs e = absurd (not_ok _ rs e)
opens false false bs rs e = (refl, refl, e)

passed : (bs : List ℕ) → AllBelowBase 256 bs → (rs : List Record) → form bs ≡ Ok rs → (bs ≡ encode rs) × Formed rs
passed [] u rs e = absurd (not_ok _ rs e)
passed (b ∷ bs) u rs e =
    let n = length (b ∷ bs) in
    let t = opens (eqb n 0 || ltb 16384 n) (not (eqb b 1)) (b ∷ bs) rs e in
    let short = ltb-false 16384 n (or_parts (eqb n 0) (ltb 16384 n) t.0).1 in
    let w = written n start bs rs (omega arith) u.1 t.2 in
    let same : b ∷ bs ≡ encode rs = ap₂ (λ x y. x ∷ y) (eqb-true b 1 (not-false (eqb b 1) t.1)) w.0 in
    (same, (w.1, subst (λ bs. length bs ≤ 16384) same short))

encoded : (rs : List Record) → AllBelowBase 256 (encode rs) → Formed rs → form (encode rs) ≡ Ok rs
encoded rs u f =
    let n = length (encode rs) in
    ap (λ t. after_opening (cond t (Some Size) None) (encode rs)) (or_from (eqb n 0) (ltb 16384 n) (ne_eqb n 0 (λ z. omega arith)) (le-ltb 16384 n f.1))
    ∙ read_back n start rs (omega arith) u.1 f.0

pub passes_as_encoded : PassesAsEncoded
passes_as_encoded bs u rs = (
  passed bs u rs,
  λ p. ap form p.0 ∙ encoded rs (subst (AllBelowBase 256) p.0 u) p.1,
)

-- ---- a slice of bytes

under_each : (bs : List ℕ) → ((i : ℕ) → get_or bs i 0 < 256) → AllBelowBase 256 bs
under_each [] h = tt
under_each (b ∷ bs) h = (h 0, under_each bs (λ i. h (suc i)))

exactly_by : (bs : List ℕ) → AllBelowBase 256 bs → (x : Result (List Record) Fault) → form bs ≡ x → (o : Result Records Fault) → filing nothing x ≡ o → Exactly bs o
exactly_by bs u (Ok rs) e (Ok c) q = let p = passed bs u rs e in let s : filed_all nothing rs ≡ c = cc in (rs, p.0, p.1, s)
exactly_by bs u (Ok rs) e (Err f) q = absurd (let z : ◌≡◌ {A = ℕ} 0 1 = cc in omega arith)
exactly_by bs u (Err g) e (Ok c) q = absurd (let z : ◌≡◌ {A = ℕ} 0 1 = cc in omega arith)
exactly_by bs u (Err g) e (Err f) q = λ rs s k. not_ok g rs (sym e ∙ (passes_as_encoded bs u rs).1 (s, k))

pub exactly : (bs : List ℕ) → ((i : ℕ) → Fits w8 (get_or bs i 0)) → (o : Result Records Fault) → reading bs ≡ o → Exactly bs o
exactly bs h o e = exactly_by bs (under_each bs (λ i. (h i).fits)) (form bs) refl o e
