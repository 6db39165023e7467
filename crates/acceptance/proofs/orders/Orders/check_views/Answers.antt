use Rattle.std.proofs.Common.{length, ap, arith, below_more}
use Rattle.acceptance.specs.Checks.{of_view_and_bases, up_to}
use Rattle.acceptance.proofs.Firsts.{Passes, passes_each, passes_checked, checked_each, checked_none}
use Rattle.acceptance.proofs.orders.Orders.check_views.Goals as goal

pub returns-in_err-check_view : goal.returns-in_err-check_view
returns-in_err-check_view g c =
    let all = c.args.self.now.records.now in
    let n = length all.views in
    let i = c.loop-view.view-index in
    let same = c.as_slice-view-items.ensures.items in
    let len = ap length same in
    checked_each n (of_view_and_bases all) i _ _ _ (omega arith) c.loop-view.invariant c.in_err-check_view.was c.from_residual.ensures.1 (rw same at c.check_view.ensures)

pub loop-view-preserved : goal.loop-view-preserved
loop-view-preserved g c =
    let all = c.args.self.now.records.now in
    let i = c.loop-view.view-index in
    below_more (λ i. Passes (of_view_and_bases all i)) i c.loop-view.invariant
    (checked_none _ _ c.in_ok-check_view.was (of_view_and_bases all i) (rw c.as_slice-view-items.ensures.items at c.check_view.ensures))

pub returns : goal.returns
returns g c =
    let all = c.args.self.now.records.now in
    let f = of_view_and_bases all in
    let len = ap length c.as_slice-view-items.ensures.items in
    passes_checked (up_to (length all.views) f) tt (passes_each (length all.views) f (λ i l. c.loop-view.invariant i (omega arith)))
