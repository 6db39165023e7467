use Rattle.acceptance.proofs.Firsts.{checked_next, checked_broken, checked_last}
use Rattle.acceptance.proofs.orders.Orders.check_own.Goals as goal

pub returns-in_err-require : goal.returns-in_err-require
returns-in_err-require g c =
    checked_broken _ _ _ _ c.has_one_right.ensures c.in_err-require.ensures c.from_residual.ensures.1

pub returns-in_err-require-2 : goal.returns-in_err-require-2
returns-in_err-require-2 g c =
    checked_next _ _ _ c.has_one_right.ensures c.in_ok-require.ensures
    (checked_broken _ _ _ _ c.has_own_operations.ensures c.in_err-require-2.ensures c.from_residual-in_err-require-2.ensures.1)

pub returns-in_err-require-3 : goal.returns-in_err-require-3
returns-in_err-require-3 g c =
    checked_next _ _ _ c.has_one_right.ensures c.in_ok-require.ensures
    (checked_next _ _ _ c.has_own_operations.ensures c.in_ok-require-2.ensures
    (checked_broken _ _ _ _ c.keeps_assignable.ensures c.in_err-require-3.ensures c.from_residual-in_err-require-3.ensures.1))

pub returns : goal.returns
returns g c =
    checked_next _ _ _ c.has_one_right.ensures c.in_ok-require.ensures
    (checked_next _ _ _ c.has_own_operations.ensures c.in_ok-require-2.ensures
    (checked_next _ _ _ c.keeps_assignable.ensures c.in_ok-require-3.ensures
    (checked_last _ _ _ c.keeps_virtual.ensures c.require-4.ensures)))
