use Rattle.std.proofs.Common.{arith}
use Rattle.sets.proofs.Counts.{bits_counted}
use Rattle.sets.proofs.NumberSet.len.Goals as goal

pub returns : goal.returns
returns c = bits_counted 64 c.args.self.bits (omega arith)
