-- Rows whose pairs never rise make an order.
use Rattle.std.specs.Prelude.{◌≡◌, ℕ, ◌<◌, ◌≤◌, List}
use Rattle.std.proofs.Math.Logic.{∥∥₁_elim}
use Rattle.std.proofs.Math.Bridge.{le_prop}
use Rattle.std.proofs.Math.Nat.{ℕ_set, le_antisymm, lt_of_le_of_lt}
use mathlib.Core.HLevel.{×_prop}
use Rattle.hierarchy.specs.Order.{Transitive}
use Rattle.hierarchy.specs.Rows.{InRows}

module _ (rows : List ℕ) (n : ℕ) (falls : (a b : ℕ) → InRows rows n a b → b ≤ a) where
  pub rows_antisym : (a b : ℕ) → InRows rows n a b → InRows rows n b a → a ≡ b
  rows_antisym a b p q = le_antisymm (falls b a q) (falls a b p)

  pub rows_within : (a b : ℕ) → InRows rows n a b → (a < n) × (b < n)
  rows_within a b p = (p.0, lt_of_le_of_lt (falls a b p) p.0)

pub rows_join : (rows : List ℕ) (n : ℕ) → ∥ Transitive (InRows rows n) ∥₁ → Transitive (InRows rows n)
rows_join rows n joins a b c p q = ∥∥₁_elim joins (×_prop le_prop (ℕ_set _ _)) (λ j. j a b c p q)
