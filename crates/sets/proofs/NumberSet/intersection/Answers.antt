use Rattle.sets.proofs.Membership.{in_and}
use Rattle.sets.proofs.NumberSet.intersection.Goals as goal

pub returns : goal.returns
returns c k = in_and k c.args.self.bits c.args.other.bits
