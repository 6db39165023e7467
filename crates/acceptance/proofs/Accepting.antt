-- The book of no record is accepted.
use Rattle.std.proofs.Common.{arith}
use Rattle.book.specs.Contents.{nothing}
use Rattle.book.proofs.Declaring.{nothing_declares}
use Rattle.acceptance.specs.Rules.{Rules, Accepted}

nothing_rules : Rules nothing
nothing_rules = record {
  one_right = λ i l. absurd (omega arith);
  own_operations = λ i l. absurd (omega arith);
  assignable = λ i l. absurd (omega arith);
  virtual = λ i l. absurd (omega arith);
  types = λ i b l. absurd (omega arith);
  restrictions = λ i b l. absurd (omega arith);
  requirements = λ i b l. absurd (omega arith);
  rights = λ i b l. absurd (omega arith);
  no_clash = λ i j l m. absurd (omega arith);
}

pub nothing_accepted : Accepted nothing
nothing_accepted = (nothing_declares, nothing_rules)
