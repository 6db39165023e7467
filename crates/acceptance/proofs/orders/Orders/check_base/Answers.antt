use Rattle.acceptance.proofs.Firsts.{checked_next, checked_broken, checked_last}
use Rattle.acceptance.proofs.Based.{on_named}
use Rattle.acceptance.proofs.orders.Orders.check_base.Goals as goal

pub returns-in_err-require : goal.returns-in_err-require
returns-in_err-require g c =
    on_named c.args.self.now.records.now _ _ _ _ c.requires.named c.view-base.ensures
    (checked_broken _ _ _ _ c.type_follows.ensures c.in_err-require.ensures c.from_residual.ensures.1)

pub returns-in_err-require-2 : goal.returns-in_err-require-2
returns-in_err-require-2 g c =
    on_named c.args.self.now.records.now _ _ _ _ c.requires.named c.view-base.ensures
    (checked_next _ _ _ c.type_follows.ensures c.in_ok-require.ensures
    (checked_broken _ _ _ _ c.restriction_follows.ensures c.in_err-require-2.ensures c.from_residual-in_err-require-2.ensures.1))

pub returns-in_err-require-3 : goal.returns-in_err-require-3
returns-in_err-require-3 g c =
    on_named c.args.self.now.records.now _ _ _ _ c.requires.named c.view-base.ensures
    (checked_next _ _ _ c.type_follows.ensures c.in_ok-require.ensures
    (checked_next _ _ _ c.restriction_follows.ensures c.in_ok-require-2.ensures
    (checked_broken _ _ _ _ c.requirements_follow.ensures c.in_err-require-3.ensures c.from_residual-in_err-require-3.ensures.1)))

pub returns : goal.returns
returns g c =
    on_named c.args.self.now.records.now _ _ _ _ c.requires.named c.view-base.ensures
    (checked_next _ _ _ c.type_follows.ensures c.in_ok-require.ensures
    (checked_next _ _ _ c.restriction_follows.ensures c.in_ok-require-2.ensures
    (checked_next _ _ _ c.requirements_follow.ensures c.in_ok-require-3.ensures
    (checked_last _ _ _ c.rights_follow.ensures c.require-4.ensures))))
