use Rattle.std.proofs.Common.{refl}
use Rattle.worked_cases.proofs.Table.{all_come_out}
use Rattle.worked_cases.proofs.cases.worked_cases_hold.Goals as goal

pub returns : goal.returns
returns c = record { count = refl; cases = all_come_out }
