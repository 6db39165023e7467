use Rattle.std.proofs.Common.{◌<◌, arith}
use Rattle.std.proofs.lemmas.Bool.{both_ways}
use Rattle.hierarchy.specs.Linking.{linked}
use Rattle.hierarchy.specs.LinkingLemmas.{length_linked, falling}
use Rattle.hierarchy.proofs.Walks.{only, walk_start, walk_take, walk_pass, walk_done, walk_none}
use Rattle.hierarchy.proofs.walked.above.Goals as goal

pub returns-then-number-len : goal.returns-then-number-len
returns-then-number-len c = walk_none (linked c.args.links.now) c.args.number c.empty-seen.result (omega arith) c.empty-seen.ensures.members

pub loop-i-init : goal.loop-i-init
loop-i-init c =
    let l = c.args.links.now in
    let n = c.args.number in
    let e = length_linked l in
    let w = l.few in
    let small : n < 64 = omega arith in
    walk_start (linked l) n c.insert.new.self (omega arith) (only c.empty-seen.result c.insert.new.self n small c.empty-seen.ensures.members c.insert.ensures)

pub loop-i-preserved-then-contains : goal.loop-i-preserved-then-contains
loop-i-preserved-then-contains c =
    let l = c.args.links.now in
    walk_take (linked l) c.args.number c.loop-i.i c.loop-i.seen c.union-seen.result c.above.result (falling l) (omega arith) c.loop-i.invariant (c.contains.ensures.0 c.if-contains.true) c.above.ensures c.union-seen.ensures

pub loop-i-preserved : goal.loop-i-preserved
loop-i-preserved c =
    walk_pass (linked c.args.links.now) c.args.number c.loop-i.i c.loop-i.seen (omega arith) c.loop-i.invariant (λ h. both_ways c.contains.result c.if-contains.false (c.contains.ensures.1 h))

pub returns : goal.returns
returns c = walk_done (linked c.args.links.now) c.args.number c.loop-i.i c.loop-i.seen (omega arith) c.loop-i.invariant
