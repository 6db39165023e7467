use Rattle.std.proofs.Common.{Decides, refl}
use Rattle.std.proofs.lemmas.Bool.Decides.{Decides-like}
use Rattle.views.proofs.Chained.{and_first, and_second}
use Rattle.views.proofs.Rightwise.{apart_one, one_apart, PermissionsApart, DenialsApart, ModesApart}
use Rattle.views.proofs.single.has_one_right.Goals as goal
use Rattle.views.proofs.single.has_one_right.Goals.{Joined-are_disjoint, then-are_disjoint, else-are_disjoint}

-- what the tests of each mode by itself say
priorities : (c : Joined-are_disjoint) → Decides c.if-are_disjoint.value (PermissionsApart c.args.view.now × DenialsApart c.args.view.now)
priorities c =
    elim c.if-are_disjoint.branch [
      | then-are_disjoint w ↦ and_second _ _ _ c.are_disjoint.ensures w.if-are_disjoint.true w.are_disjoint-then-are_disjoint.ensures w.value-is
      | else-are_disjoint w ↦ and_first _ _ c.are_disjoint.ensures w.if-are_disjoint.false w.value-is
    ]

pub returns-then-are_disjoint-2 : goal.returns-then-are_disjoint-2
returns-then-are_disjoint-2 c =
    let v = c.args.view.now in
    let p = c.permissions.ensures in
    let d = c.denials.ensures in
    let apart = c.are_disjoint-then-are_disjoint-2.ensures in
    let modes : Decides c.are_disjoint-then-are_disjoint-2.result (ModesApart v) = (λ e o q r. apart.0 e o ((p o).1 q) ((d o).1 r), λ m. apart.1 (λ o q r. m o ((p o).0 q) ((d o).0 r))) in
    Decides-like _ (apart_one v) (one_apart v) (and_second _ _ _ (priorities (goal.at.returns-then-are_disjoint-2 c).Joined-are_disjoint) c.if-are_disjoint-2.true modes refl)

pub returns-else-are_disjoint-2 : goal.returns-else-are_disjoint-2
returns-else-are_disjoint-2 c =
    Decides-like _ (apart_one c.args.view.now) (one_apart c.args.view.now)
    (and_first _ _ (priorities (goal.at.returns-else-are_disjoint-2 c).Joined-are_disjoint) c.if-are_disjoint-2.false refl)
