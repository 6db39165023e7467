-- What `map_err` says of the result that it is called on.
use Rattle.std.proofs.Common.{◌≡◌, ℕ, Ok, Err, Result, Some, None, Option, MatchResult, ap, subst, refl, arith}
use Rattle.std.specs.Result.{IsErrAnd}
use Rattle.book.specs.declared.refusal.Refusal.{Refusal}
use Rattle.book.specs.Reading.{Told}

module _ {T E D : Type 0} (Q : E → D → Type 0) where
  pub mapped_ok : (s : Result T E) (r : Result T D) (y : T) → MatchResult s (λ x. r ≡ Ok x) (λ e. IsErrAnd r (Q e)) → r ≡ Ok y → s ≡ Ok y
  mapped_ok (Ok x) r y h e = let p : x ≡ y = cc in ap Ok p
  mapped_ok (Err d) r y h e = absurd (subst (λ r. IsErrAnd r (Q d)) e h)

  pub mapped_err : (s : Result T E) (r : Result T D) (d : D) → MatchResult s (λ x. r ≡ Ok x) (λ e. IsErrAnd r (Q e)) → r ≡ Err d → (e : E) × (s ≡ Err e) × Q e d
  mapped_err (Ok x) r d h e = absurd (let z : ◌≡◌ {A = ℕ} 0 1 = cc in omega arith)
  mapped_err (Err x) r d h e = (x, refl, subst (λ r. IsErrAnd r (Q x)) e h)

-- what a step told, where its refusal was given a place
module _ {X D : Type 0} (Q : Refusal → D → Type 0) (s : Result X Refusal) (r : Result X D) (o : Option Refusal) (x : X) (h : MatchResult s (λ y. r ≡ Ok y) (λ e. IsErrAnd r (Q e))) (t : Told s o x) where
  pub told_ok : (y : X) → r ≡ Ok y → (o ≡ None) × (y ≡ x)
  told_ok y e = subst (λ s. Told s o x) (mapped_ok Q s r y h e) t

  pub told_err : (d : D) → r ≡ Err d → (e : Refusal) × (o ≡ Some e) × Q e d
  told_err d e = let m = mapped_err Q s r d h e in (m.0, subst (λ s. Told s o x) m.1 t, m.2)
