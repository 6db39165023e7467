use Rattle.std.proofs.Common.{◌<◌, ◌^◌, ◌≡◌, ◌∙◌, ap, subst, inr, ⊎_elim, arith}
use mathlib.Core.Logic.{∥∥₁_elim, ∥∥₁_map}
use mathlib.Core.HLevel.{⊥_prop}
use Rattle.std.proofs.lemmas.List.{get_or_past}
use Rattle.sets.specs.declared.NumberSet.{NumberSet}
use Rattle.sets.specs.Members.{In, Iff}
use Rattle.sets.proofs.Membership.{not_in_none}
use Rattle.sets.proofs.Gathering.{gathered_start, gathered_more, gathered_all}
use Rattle.views.specs.Some.{Exists}
use Rattle.acceptance.specs.Orders.{RoleOf}
use Rattle.acceptance.proofs.inherited.subject_roles.Goals as goal

pub returns-in_default : goal.returns-in_default
returns-in_default g c m k =
    let past = ap (λ s. s.groups) (get_or_past c.args.records.now.subjects c.args.number _ c.in_default.ensures.item) in (
      λ h. absurd (c.empty.ensures.members k h),
      λ h. absurd (∥∥₁_elim h ⊥_prop (λ s. not_in_none s.0 (subst (In s.0) past s.1.0))),
    )

pub loop-group-init : goal.loop-group-init
loop-group-init g c m = gathered_start _ _ _

pub loop-group-preserved : goal.loop-group-preserved
loop-group-preserved g c m =
    gathered_more (RoleOf c.args.records.now) _ _ _ _ c.in-Some-group.group _ _ c.group_roles.result c.in-Some-group.ensures.steps (c.loop-group.invariant m) (c.group_roles.ensures m) c.union-roles.ensures

pub returns : goal.returns
returns g c m k =
    let all = c.args.records.now in
    let mine : c.into_iter-group-iterator.result.left ≡ c.in-Some.subject.groups = ap (λ m. m.left) c.into_iter-group-iterator.ensures.into_iter_gives ∙ c.iter-group-items.ensures in
    let small : c.into_iter-group-iterator.result.left.bits < 2 ^ 64 = omega (arith, ap (λ s. s.bits) mine) in
    let found = ap (λ s. s.groups) (c.in-Some.ensures.item.1 _) in
    let gathered = gathered_all (RoleOf all) c.empty-roles.result c.into_iter-group-iterator.result.left c.loop-group.roles _ small c.in-None.ensures.steps.0 (c.loop-group.invariant m) k in
    subst (λ (s : NumberSet). Iff (In k c.loop-group.roles) (Exists (λ h. In h s × RoleOf all h k))) (mine ∙ found) (
      λ h. ⊎_elim (λ e. absurd (c.empty-roles.ensures.members k e)) (λ p. ∥∥₁_map p (λ q. (q.0, (q.1, q.2)))) (gathered.0 h),
      λ p. gathered.1 (inr (∥∥₁_map p (λ q. (q.0, q.1.0, q.1.1)))),
    )
