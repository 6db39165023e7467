use Rattle.acceptance.specs.Checks.{of_view}
use Rattle.acceptance.proofs.Firsts.{checked_none, checked_before, checked_behind}
use Rattle.acceptance.proofs.orders.Orders.check_view.Goals as goal

pub returns-in_err-check_own : goal.returns-in_err-check_own
returns-in_err-check_own g c = checked_before _ _ _ _ _ c.in_err-check_own.was c.from_residual.ensures.1 c.check_own.ensures

pub returns : goal.returns
returns g c =
    let own = of_view c.args.self.now.records.now c.args.view.now in
    checked_behind own _ _ (checked_none _ _ c.in_ok-check_own.was own c.check_own.ensures) c.check_bases.ensures
