use Rattle.sets.specs.Members.{members}
use Rattle.sets.proofs.Gathering.{Gathered}
use Rattle.hierarchy.specs.Order.{Below}
use Rattle.hierarchy.specs.Linking.{linked}
use Rattle.hierarchy.proofs.rows.row.Given as goal

abbrev pub invariant-loop-lower : goal.invariant-loop-lower
invariant-loop-lower l = Gathered (Below (linked l.links)) l.initial.row (members l.initial.lower-iterator.left) (members l.lower-iterator.left) l.row
