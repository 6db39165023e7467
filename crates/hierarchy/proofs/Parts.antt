-- The row of a number, joined from the rows of those directly above it.
use Rattle.std.proofs.Common.{◌≡◌, ℕ, ◌<◌, ◌≤◌, ◌⊎◌, List, length, sym, refl, subst, inl, inr, ⊎_elim, arith}
use mathlib.Core.Logic.{∥∥₁_elim, ∥∥₁_prop}
use native.Mathlib.Nat.{ℕ_set}
use Rattle.sets.specs.declared.NumberSet.{NumberSet}
use Rattle.sets.specs.Members.{In, Iff}
use Rattle.hierarchy.specs.Order.{links_of, Falling, Steps, here, up, Below, Reflexive, Transitive}
use Rattle.hierarchy.specs.Rows.{Told, InRows}
use Rattle.hierarchy.specs.Paths.{below_refl, below_trans, below_le, below_within}
use Rattle.hierarchy.proofs.Paths.{below_up}

-- the number itself, and what is at or above those directly above it
pub row_done : (links : List NumberSet) (i : ℕ) (start above row : NumberSet) → i < length links → ((k : ℕ) → Iff (In k start) (k ≡ i)) → above ≡ links_of links i
    → ((k : ℕ) → Iff (In k row) (In k start ⊎ ∥ ((c : ℕ) × In c above × Below links c k) ∥₁)) → (k : ℕ) → Iff (In k row) (Below links i k)
row_done links i start above row l only e h k = (
  λ p.
      ⊎_elim
      (λ q. subst (Below links i) (sym ((only k).0 q)) (below_refl links i l))
      (λ q. ∥∥₁_elim q ∥∥₁_prop (λ r. below_up links i r.0 k (subst (In r.0) e r.1) r.2))
      ((h k).0 p),
  λ p. ∥∥₁_elim p (ℕ_set _ _) (λ s. (h k).1 (first_step s)),
)
  where
    first_step : {k : ℕ} → Steps links i k → In k start ⊎ ∥ ((c : ℕ) × In c above × Below links c k) ∥₁
    first_step (here m) = inl ((only i).1 refl)
    first_step (up {b = c} f r) = inr ∣ (c, subst (In c) (sym e) f, ∣ r ∣₁) ∣₁

-- ---- the order of rows that tell of falling links

module _ (links : List NumberSet) (rows : List ℕ) (n : ℕ) (f : Falling links) (e : n ≡ length links) (t : Told links rows (length links)) where
  pub rows_below : (a b : ℕ) → Iff (InRows rows n a b) (Below links a b)
  rows_below a b = (
    λ p. let l = p.0 in (t a b (omega arith)).0 p.1,
    λ p. let w = (below_within links f a b p).0 in (omega arith, (t a b w).1 p),
  )

  pub rows_refl : Reflexive n (InRows rows n)
  rows_refl a l = (rows_below a a).1 (below_refl links a (omega arith))

  pub rows_le : (a b : ℕ) → InRows rows n a b → b ≤ a
  rows_le a b p = below_le links f a b ((rows_below a b).0 p)

  pub rows_trans : Transitive (InRows rows n)
  rows_trans a b c p q = (rows_below a c).1 (below_trans links a b c ((rows_below a b).0 p) ((rows_below b c).0 q))
