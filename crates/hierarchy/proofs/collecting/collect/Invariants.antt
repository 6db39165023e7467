use Rattle.std.proofs.Common.{ℕ, map}
use Rattle.sets.specs.Members.{In, Iff}
use Rattle.hierarchy.proofs.Gathering.{Upto}
use Rattle.hierarchy.proofs.collecting.collect.Given as goal

abbrev pub invariant-loop-place : goal.invariant-loop-place
invariant-loop-place g l = (k : ℕ) → Iff (In k l.all) (Upto (g.H.Hierarchy.pairs l.order) (map g.R.Carrier.carried l.records) l.number l.place k)
