use Rattle.sets.specs.Members.{members}
use Rattle.acceptance.specs.Checks.{of_base}
use Rattle.acceptance.proofs.Firsts.{Passes}
use Rattle.acceptance.proofs.Visiting.{Visited}
use Rattle.acceptance.proofs.orders.Orders.check_bases.Given as goal

abbrev pub invariant-loop-number : goal.invariant-loop-number
invariant-loop-number g l = Visited (λ i. Passes (of_base l.self.records.now l.view i)) (members l.view.bases) (members l.number-iterator.left)
