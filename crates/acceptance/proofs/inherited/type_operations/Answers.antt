use Rattle.std.proofs.Common.{refl}
use Rattle.acceptance.specs.Orders.{type_links}
use Rattle.acceptance.proofs.Inheriting.{collected}
use Rattle.acceptance.proofs.inherited.type_operations.Goals as goal

pub returns : goal.returns
returns g c m = collected (λ t. t.operations) _ refl _ _ c.as_slice.ensures.items (type_links c.args.records.now) _ m _ _ c.collect.ensures
