use Rattle.std.proofs.Common.{refl}
use Rattle.acceptance.specs.Orders.{group_links}
use Rattle.acceptance.proofs.Inheriting.{collected}
use Rattle.acceptance.proofs.inherited.group_roles.Goals as goal

pub returns : goal.returns
returns g c m = collected (λ t. t.roles) _ refl _ _ c.as_slice.ensures.items (group_links c.args.records.now) _ m _ _ c.collect.ensures
