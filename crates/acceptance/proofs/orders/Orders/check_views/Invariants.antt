use Rattle.std.proofs.Common.{ℕ, ◌<◌}
use Rattle.acceptance.specs.Checks.{of_view_and_bases}
use Rattle.acceptance.proofs.Firsts.{Passes}
use Rattle.acceptance.proofs.orders.Orders.check_views.Given as goal

abbrev pub invariant-loop-view : goal.invariant-loop-view
invariant-loop-view g l = (i : ℕ) → i < l.view-index → Passes (of_view_and_bases l.self.records.now i)
