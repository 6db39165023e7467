use Rattle.acceptance.proofs.Meaning.{tells_sets_below}
use Rattle.acceptance.proofs.orders.Orders.roles_are_below.Goals as goal

pub returns : goal.returns
returns g c = tells_sets_below _ _ c.args.self.now.of_roles _ _ _ c.are_below.ensures
