use Rattle.std.proofs.Common.{◌∙◌, arith}
use Rattle.std.proofs.lemmas.Bool.Decides.{not_from_Decides}
use Rattle.acceptance.proofs.Clashing.{before_more, no_clash_unshared}
use Rattle.acceptance.proofs.orders.Orders.first_clash.Goals as goal
use Rattle.acceptance.proofs.orders.Orders.first_clash.Goals.{then-are_rivals+else-loop-kind-test, else-are_rivals}

pub loop-second-preserved : goal.loop-second-preserved
loop-second-preserved g c =
    let all = c.args.self.now.records.now in
    let i = c.pairs.first in
    let j = c.loop-second.second in
    elim c.if-are_rivals.branch [
      | then-are_rivals+else-loop-kind-test w ↦
          (w.found-is ∙ w.loop-kind.invariant.0, before_more all i j c.loop-second.invariant.1 (no_clash_unshared all i j w.loop-kind.kind (omega arith) w.loop-kind.invariant.2))
      | else-are_rivals w ↦
          (w.found-is ∙ c.loop-second.invariant.0, before_more all i j c.loop-second.invariant.1 (λ k. not_from_Decides c.are_rivals.result c.are_rivals.ensures w.if-are_rivals.false k.0))
    ]

pub returns-then-is_shared : goal.returns-then-is_shared
returns-then-is_shared g c =
    let rivals = c.are_rivals.ensures.0 c.if-are_rivals.true in
    let shared = c.is_shared.ensures.0 c.if-is_shared.true in
    (omega arith, omega arith, (rivals, ∣ (c.loop-kind.kind, shared) ∣₁), c.loop-second.invariant.1)
