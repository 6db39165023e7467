use Rattle.std.proofs.Common.{ℕ, ◌+◌, ◌⊎◌, map, sym, subst, arith}
use Rattle.std.proofs.lemmas.List.{length-map}
use Rattle.std.proofs.lemmas.Bool.{both_ways}
use Rattle.sets.specs.declared.NumberSet.{NumberSet}
use Rattle.sets.specs.Members.{In, Iff}
use Rattle.hierarchy.proofs.Linking.{read_at}
use Rattle.hierarchy.proofs.Gathering.{Upto, upto_none, upto_take, upto_pass, upto_all}
use Rattle.hierarchy.proofs.collecting.collect.Goals as goal
use Rattle.hierarchy.proofs.collecting.collect.Goals.{then-at_or_below, else-at_or_below}

pub loop-place-init : goal.loop-place-init
loop-place-init g c = upto_none (g.H.Hierarchy.pairs c.args.order.now) (map g.R.Carrier.carried c.args.records.now) c.args.number c.empty-all.result c.empty-all.ensures.members

pub loop-place-preserved : goal.loop-place-preserved
loop-place-preserved g c =
    let pairs = g.H.Hierarchy.pairs c.args.order.now in
    let carried = g.R.Carrier.carried in
    let rs = c.args.records.now in
    let sets = map carried rs in
    let a = c.args.number in
    let n = c.loop-place.place in
    let all = c.loop-place.all in
    let P : NumberSet → Type 0 = λ s. (k : ℕ) → Iff (In k s) (Upto pairs sets a (n + 1) k) in
    elim c.if-at_or_below.branch [
      | then-at_or_below w ↦
          let at = read_at carried rs n c.index-records-place.result w.carried.result c.loop-place-test.true c.index-records-place.is w.carried.ensures in
          subst P (sym w.all-is)
          (upto_take pairs sets a n all w.union-all.result (c.at_or_below.ensures.0 w.if-at_or_below.true) c.loop-place.invariant (subst (λ s. (k : ℕ) → Iff (In k w.union-all.result) (In k all ⊎ In k s)) at w.union-all.ensures))
      | else-at_or_below w ↦
          subst P (sym w.all-is) (upto_pass pairs sets a n all (λ p. both_ways c.at_or_below.result w.if-at_or_below.false (c.at_or_below.ensures.1 p)) c.loop-place.invariant)
    ]

pub returns : goal.returns
returns g c =
    let e = length-map c.args.records.now g.R.Carrier.carried in
    upto_all (g.H.Hierarchy.pairs c.args.order.now) (map g.R.Carrier.carried c.args.records.now) c.args.number c.loop-place.place c.loop-place.all (omega arith) c.loop-place.invariant
