use Rattle.std.proofs.Common.{map, length, sym, subst, arith}
use Rattle.std.proofs.lemmas.List.{length-map}
use Rattle.std.proofs.lemmas.Bool.{both_ways}
use Rattle.sets.specs.Members.{In}
use Rattle.hierarchy.proofs.Paths.{least_order}
use Rattle.hierarchy.proofs.Linking.{read_at, filled_more, filled_done}
use Rattle.hierarchy.proofs.links.Links.of.Goals as goal

pub returns-then-len-gt64 : goal.returns-then-len-gt64
returns-then-len-gt64 g c =
    let e = length-map c.args.records.now g.R.Linked.above in
    record { links = λ f. let l = f.0 in let p = c.if-len-gt64.true in omega arith; least = least_order }

pub returns-then-not-is_below : goal.returns-then-not-is_below
returns-then-not-is_below g c =
    let i = c.loop-i.i in
    let at = read_at g.R.Linked.above c.args.records.now i c.index-records-i.result c.above-above.result c.loop-i-test.true c.index-records-i.is c.above-above.ensures in
    record { links = λ f. both_ways c.is_below.result c.if-not-is_below.true (c.is_below.ensures.members.1 (λ b h. f.1 i b (subst (In b) at h))); least = least_order }

pub loop-i-preserved : goal.loop-i-preserved
loop-i-preserved g c =
    let rs = c.args.records.now in
    let i = c.loop-i.i in
    let at = read_at g.R.Linked.above rs i c.index-records-i.result c.above-above.result c.loop-i-test.true c.index-records-i.is c.above-above.ensures in
    filled_more (map g.R.Linked.above rs) c.loop-i.rows i c.above-above.result (omega arith) c.loop-i.invariant at (c.is_below.ensures.members.0 c.if-not-is_below.false)

pub returns : goal.returns
returns g c =
    let rs = c.args.records.now in
    let above = g.R.Linked.above in
    record { links = filled_done (map above rs) c.loop-i.rows (length rs) c.loop-i.i (sym (length-map rs above)) c.loop-i-test.false (omega arith) c.loop-i.invariant; least = least_order }
