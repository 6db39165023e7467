use Rattle.acceptance.proofs.Meaning.{tells_below}
use Rattle.acceptance.proofs.orders.Orders.view_is_below.Goals as goal

pub returns : goal.returns
returns g c = tells_below _ _ c.args.self.now.of_views _ _ _ c.at_or_below.ensures
