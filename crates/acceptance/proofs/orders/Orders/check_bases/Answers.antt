use Rattle.std.proofs.Common.{◌≡◌, ◌<◌, ◌^◌, ◌∙◌, length, sym, ap, subst, arith}
use Rattle.sets.specs.declared.NumberSet.{NumberSet}
use Rattle.sets.specs.Members.{In, members}
use Rattle.sets.proofs.Rising.{member_of, members_has}
use Rattle.acceptance.specs.Checks.{of_base, up_to}
use Rattle.acceptance.proofs.Firsts.{Passes, passes_each, passes_checked, checked_each, checked_none}
use Rattle.acceptance.proofs.Visiting.{Visited, visited_more, visited_all, visited_next, visited_lower}
use Rattle.acceptance.proofs.orders.Orders.check_bases.Goals as goal

pub loop-number-init : goal.loop-number-init
loop-number-init g c =
    let all = c.args.self.now.records.now in
    let v = c.args.view.now in
    let mine : c.into_iter-number-iterator.result.left ≡ v.bases = ap (λ m. m.left) c.into_iter-number-iterator.ensures.into_iter_gives ∙ c.iter-number-items.ensures in
    let small : v.bases.bits < 2 ^ 64 = omega (arith, ap (λ s. s.bits) mine) in
    subst (λ (s : NumberSet). Visited (λ i. Passes (of_base all v i)) (members v.bases) (members s)) (sym mine) (record {
      within = λ k h. h;
      done = λ i n.
          let out : In i v.bases → ⊥ = λ h. n (members_has v.bases i small h) in
          (λ h. absurd (out h), (λ h. absurd (out h), (λ h. absurd (out h), (λ h. absurd (out h), tt))));
    })

pub check_base-requires : goal.check_base-requires
check_base-requires g c =
    let v = c.args.view.now in
    let named = member_of v.bases c.in-Some.number (visited_next (λ i. Passes (of_base c.args.self.now.records.now v i)) (members v.bases) _ _ _ c.in-Some.ensures.steps c.loop-number.invariant) in
    record { named = named; there = c.requires c.in-Some.number named }

pub returns-in_err-check_base : goal.returns-in_err-check_base
returns-in_err-check_base g c =
    let all = c.args.self.now.records.now in
    let v = c.args.view.now in
    let i = c.in-Some.number in
    let named = member_of v.bases i (visited_next (λ i. Passes (of_base all v i)) (members v.bases) _ _ _ c.in-Some.ensures.steps c.loop-number.invariant) in
    checked_each (length all.views) (of_base all v) i _ _ _ (c.requires i named)
    (visited_lower (λ i. Passes (of_base all v i)) (members v.bases) _ _ i c.in-Some.ensures.steps c.loop-number.invariant)
    c.in_err-check_base.was c.from_residual.ensures.1 c.check_base.ensures

pub loop-number-preserved : goal.loop-number-preserved
loop-number-preserved g c =
    let all = c.args.self.now.records.now in
    let v = c.args.view.now in
    let i = c.in-Some.number in
    visited_more (λ i. Passes (of_base all v i)) (members v.bases) _ _ i c.in-Some.ensures.steps c.loop-number.invariant (checked_none _ _ c.in_ok-check_base.was (of_base all v i) c.check_base.ensures)

pub returns : goal.returns
returns g c =
    let all = c.args.self.now.records.now in
    let v = c.args.view.now in
    let f = of_base all v in
    passes_checked (up_to (length all.views) f) tt
    (passes_each (length all.views) f (λ i l. visited_all (λ i. Passes (of_base all v i)) (members v.bases) _ c.in-None.ensures.steps.0 c.loop-number.invariant i))
