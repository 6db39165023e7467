use Rattle.std.proofs.Common.{length}
use Rattle.acceptance.specs.Checks.{up_to, of_view_and_bases}
use Rattle.acceptance.proofs.Firsts.{checked_none, checked_before, checked_behind}
use Rattle.acceptance.proofs.judging.check.Goals as goal

pub returns-in_err-check_views : goal.returns-in_err-check_views
returns-in_err-check_views g c =
    checked_before _ _ _ _ _ c.in_err-check_views.was c.from_residual.ensures.1 (rw c.of-orders.ensures at c.check_views.ensures)

pub returns : goal.returns
returns g c =
    let all = c.args.records.now in
    let views = up_to (length all.views) (of_view_and_bases all) in
    checked_behind views _ _ (checked_none _ _ c.in_ok-check_views.was views (rw c.of-orders.ensures at c.check_views.ensures)) (rw c.of-orders.ensures at c.check_pairs.ensures)
