use Rattle.std.proofs.Common.{arith}
use Rattle.sets.proofs.Membership.{none_from, cleared}
use Rattle.sets.proofs.NumberSet.without.Goals as goal

pub returns-then-number-ge64 : goal.returns-then-number-ge64
returns-then-number-ge64 c k =
    let past = c.if-number-ge64.true in
    (λ h. (h, λ e. none_from 64 c.args.self.bits k (omega arith) (omega arith) h), λ h. h.0)

pub returns : goal.returns
returns c k = cleared k c.args.self.bits c.args.number (omega arith) (let l = c.if-number-ge64.false in omega arith)
