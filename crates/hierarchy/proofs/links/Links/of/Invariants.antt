use Rattle.std.proofs.Common.{map}
use Rattle.hierarchy.proofs.Linking.{Filled}
use Rattle.hierarchy.proofs.links.Links.of.Given as goal

abbrev pub invariant-loop-i : goal.invariant-loop-i
invariant-loop-i g l = Filled (map g.R.Linked.above l.records) l.rows l.i
