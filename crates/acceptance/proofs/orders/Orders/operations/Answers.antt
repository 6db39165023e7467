use Rattle.std.proofs.Math.Logic.{∥∥₁_prop}
use native.Mathlib.Nat.{ℕ_set}
use Rattle.acceptance.proofs.Meaning.{same_under}
use Rattle.acceptance.proofs.orders.Orders.operations.Goals as goal

pub returns : goal.returns
returns g c o = same_under c.args.self.now.of_types (ℕ_set _ _) ∥∥₁_prop (λ m. c.type_operations.ensures m o)
