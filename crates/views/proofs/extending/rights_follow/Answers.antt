use Rattle.std.proofs.Common.{Decides, refl}
use Rattle.std.proofs.lemmas.Bool.Decides.{Decides-like}
use Rattle.views.specs.Rights.{weak_permission, strong_permission, weak_denial, strong_denial}
use Rattle.views.proofs.Chained.{and_first, and_second}
use Rattle.views.proofs.Rightwise.{KeptRight, all_follow, follow_all, become_permissions, become_strong_permissions, become_rights, become_strong_denials, kept_in, new_in}
use Rattle.views.proofs.extending.rights_follow.Goals as goal
use Rattle.views.proofs.extending.rights_follow.Goals.{Joined-is_subset-3, then-is_subset, else-is_subset, then-is_subset-2, else-is_subset-2, then-is_subset-3, else-is_subset-3}

-- what the first four tests say
four : (c : Joined-is_subset-3) → let v = c.args.view.now in let w = c.args.base.now in Decides c.if-is_subset-3.value (((KeptRight v w weak_permission × KeptRight v w strong_permission) × KeptRight v w weak_denial) × KeptRight v w strong_denial)
four c =
    let v = c.args.view.now in
    let w = c.args.base.now in
    let first = kept_in v w weak_permission _ (become_permissions v _ c.permissions.ensures) _ c.is_subset.ensures in
    let second : Decides c.if-is_subset.value (KeptRight v w weak_permission × KeptRight v w strong_permission) =
    elim c.if-is_subset.branch [
      | then-is_subset b ↦ and_second _ _ _ first b.if-is_subset.true (kept_in v w strong_permission _ (become_strong_permissions v) _ b.is_subset-then-is_subset.ensures) b.value-is
      | else-is_subset b ↦ and_first _ _ first b.if-is_subset.false b.value-is
    ] in
    let third : Decides c.if-is_subset-2.value ((KeptRight v w weak_permission × KeptRight v w strong_permission) × KeptRight v w weak_denial) =
    elim c.if-is_subset-2.branch [
      | then-is_subset-2 b ↦ and_second _ _ _ second b.if-is_subset-2.true (kept_in v w weak_denial _ (become_rights v _ b.rights.ensures) _ b.is_subset-then-is_subset-2.ensures) b.value-is
      | else-is_subset-2 b ↦ and_first _ _ second b.if-is_subset-2.false b.value-is
    ] in
    elim c.if-is_subset-3.branch [
      | then-is_subset-3 b ↦ and_second _ _ _ third b.if-is_subset-3.true (kept_in v w strong_denial _ (become_strong_denials v) _ b.is_subset-then-is_subset-3.ensures) b.value-is
      | else-is_subset-3 b ↦ and_first _ _ third b.if-is_subset-3.false b.value-is
    ]

pub returns-then-is_subset-4 : goal.returns-then-is_subset-4
returns-then-is_subset-4 c =
    let v = c.args.view.now in
    let w = c.args.base.now in
    let new = new_in v w _ _ c.denials.ensures c.rights-then-is_subset-4.ensures _ c.is_subset-then-is_subset-4.ensures in
    Decides-like _ (all_follow v w) (follow_all v w) (and_second _ _ _ (four (goal.at.returns-then-is_subset-4 c).Joined-is_subset-3) c.if-is_subset-4.true new refl)

pub returns-else-is_subset-4 : goal.returns-else-is_subset-4
returns-else-is_subset-4 c =
    Decides-like _ (all_follow c.args.view.now c.args.base.now) (follow_all c.args.view.now c.args.base.now)
    (and_first _ _ (four (goal.at.returns-else-is_subset-4 c).Joined-is_subset-3) c.if-is_subset-4.false refl)
