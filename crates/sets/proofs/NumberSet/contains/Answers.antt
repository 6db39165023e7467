use Rattle.std.proofs.Common.{arith}
use Rattle.std.proofs.lemmas.Bool.{ltb-true}
use Rattle.sets.proofs.Membership.{none_from}
use Rattle.sets.proofs.NumberSet.contains.Goals as goal

pub returns-else-number-lt64 : goal.returns-else-number-lt64
returns-else-number-lt64 c =
    let past = c.if-number-lt64.false in (
      λ h. let l = ltb-true c.args.number 64 h in absurd (omega arith),
      λ h. absurd (none_from 64 c.args.self.bits c.args.number (omega arith) past h),
    )
