use Rattle.hierarchy.specs.Linking.{linked}
use Rattle.hierarchy.proofs.Walks.{Walk}
use Rattle.hierarchy.proofs.walked.above.Given as goal

abbrev pub invariant-loop-i : goal.invariant-loop-i
invariant-loop-i l = Walk (linked l.links) l.number l.i l.seen
