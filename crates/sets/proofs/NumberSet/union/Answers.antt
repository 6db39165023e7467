use Rattle.sets.proofs.Membership.{in_or}
use Rattle.sets.proofs.NumberSet.union.Goals as goal

pub returns : goal.returns
returns c k = in_or k c.args.self.bits c.args.other.bits
