use Rattle.std.proofs.Common.{◌≡◌, length}
use Rattle.hierarchy.specs.Linking.{linked}
use Rattle.hierarchy.specs.Rows.{Told}
use Rattle.hierarchy.proofs.rows.build.Given as goal

abbrev pub invariant-loop-number : goal.invariant-loop-number
invariant-loop-number l = (length l.of ≡ 64) × Told (linked l.links) l.of l.number
