use Rattle.std.proofs.Common.{◌≡◌, ◌-◌, length}
use Rattle.book.specs.Form.{reading}
use Rattle.book.specs.Declarations.{WithinLimits}
use Rattle.book.proofs.Steps.{Going}
use Rattle.book.proofs.read.read.Given as goal

abbrev pub invariant-loop-part : goal.invariant-loop-part
invariant-loop-part l = (l.reader.book.now ≡ l.book) × Going l.book l.reader.position l.records (reading l.book) × WithinLimits l.records

abbrev pub decreases-loop-part : goal.decreases-loop-part
decreases-loop-part l = length l.book - l.reader.position.at
