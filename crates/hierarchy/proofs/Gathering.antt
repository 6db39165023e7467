-- What the first numbers of an order bring together.
use Rattle.std.proofs.Common.{ℕ, ◌+◌, ◌<◌, ◌≤◌, ◌⊎◌, List, length, get_or, subst, inl, inr, ⊎_elim, arith}
use mathlib.Core.Logic.{∥∥₁_elim, ∥∥₁_map}
use native.Mathlib.Nat.{ℕ_set}
use Rattle.std.proofs.lemmas.Bool.{cases_eq}
use Rattle.sets.specs.declared.NumberSet.{NumberSet}
use Rattle.sets.specs.Members.{In, Iff}
use Rattle.hierarchy.specs.Order.{none, Collected}
use Rattle.hierarchy.specs.Paths.{link_declared}

-- k is in the set of some number below n that a lies at or below
abbrev pub Upto : (ℕ → ℕ → Type 0) → List NumberSet → ℕ → ℕ → ℕ → Type 0
Upto pairs sets a n k = ∥ ((b : ℕ) × (b < n) × pairs a b × In k (get_or sets b none)) ∥₁

module _ (pairs : ℕ → ℕ → Type 0) (sets : List NumberSet) (a : ℕ) where
  pub upto_none : (all : NumberSet) → ((k : ℕ) → In k all → ⊥) → (k : ℕ) → Iff (In k all) (Upto pairs sets a 0 k)
  upto_none all h k = (λ p. absurd (h k p), λ p. ∥∥₁_elim p (ℕ_set _ _) (λ s. let l = s.1 in absurd (omega arith)))

  pub upto_take : (n : ℕ) (all new : NumberSet) → pairs a n → ((k : ℕ) → Iff (In k all) (Upto pairs sets a n k)) → ((k : ℕ) → Iff (In k new) (In k all ⊎ In k (get_or sets n none))) → (k : ℕ) → Iff (In k new) (Upto pairs sets a (n + 1) k)
  upto_take n all new p inv h k = (
    λ q. ⊎_elim (λ r. ∥∥₁_map ((inv k).0 r) (λ s. (s.0, omega (arith, s.1), s.2, s.3))) (λ r. ∣ (n, omega arith, p, r) ∣₁) ((h k).0 q),
    λ q.
        ∥∥₁_elim q (ℕ_set _ _)
        (λ s. ⊎_elim (λ e. (h k).1 (inr (subst (λ x. In k (get_or sets x none)) e s.3))) (λ e. (h k).1 (inl ((inv k).1 ∣ (s.0, omega (arith, e, s.1), s.2, s.3) ∣₁))) (cases_eq s.0 n)),
  )

  pub upto_pass : (n : ℕ) (all : NumberSet) → (pairs a n → ⊥) → ((k : ℕ) → Iff (In k all) (Upto pairs sets a n k)) → (k : ℕ) → Iff (In k all) (Upto pairs sets a (n + 1) k)
  upto_pass n all p inv k = (
    λ q. ∥∥₁_map ((inv k).0 q) (λ s. (s.0, omega (arith, s.1), s.2, s.3)),
    λ q. ∥∥₁_elim q (ℕ_set _ _) (λ s. ⊎_elim (λ e. absurd (p (subst (pairs a) e s.2))) (λ e. (inv k).1 ∣ (s.0, omega (arith, e, s.1), s.2, s.3) ∣₁) (cases_eq s.0 n)),
  )

  pub upto_all : (n : ℕ) (all : NumberSet) → length sets ≤ n → ((k : ℕ) → Iff (In k all) (Upto pairs sets a n k)) → (k : ℕ) → Iff (In k all) (Collected pairs sets a k)
  upto_all n all l inv k = (
    λ q. ∥∥₁_map ((inv k).0 q) (λ s. (s.0, s.2, s.3)),
    λ q. (inv k).1 (∥∥₁_map q (λ s. (s.0, (let d = link_declared sets s.0 k s.2 in omega arith), s.1, s.2))),
  )
