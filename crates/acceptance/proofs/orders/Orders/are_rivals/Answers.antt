use Rattle.std.proofs.Common.{not, Decides, refl, ap, subst}
use Rattle.std.proofs.lemmas.Bool.Decides.{Decides-not, Decides-like}
use Rattle.records.specs.declared.View.{View}
use Rattle.book.specs.Declarations.{view_at}
use Rattle.hierarchy.specs.Order.{Below}
use Rattle.acceptance.specs.Orders.{view_links}
use Rattle.views.specs.Some.{Exists}
use Rattle.views.specs.ViewRules.{Opposed}
use Rattle.views.proofs.Chained.{and_first, and_second}
use Rattle.acceptance.proofs.orders.Orders.are_rivals.Goals as goal
use Rattle.acceptance.proofs.orders.Orders.are_rivals.Goals.{then-not-view_is_below, else-not-view_is_below}

pub returns-then-not-view_is_below-2 : goal.returns-then-not-view_is_below-2
returns-then-not-view_is_below-2 g c =
    let all = c.args.self.now.records.now in
    let i = c.args.first in
    let j = c.args.second in
    let not_below = Decides-not _ c.view_is_below.ensures in
    let unrelated : Decides c.if-not-view_is_below.value ((Below (view_links all) i j → ⊥) × (Below (view_links all) j i → ⊥)) =
    elim c.if-not-view_is_below.branch [
      | then-not-view_is_below w ↦ and_second _ _ _ not_below (ap not w.if-not-view_is_below.true) (Decides-not _ w.view_is_below-then-not-view_is_below.ensures) w.value-is
      | else-not-view_is_below w ↦ and_first _ _ not_below (ap not w.if-not-view_is_below.false) w.value-is
    ] in
    Decides-like _ (λ p. (p.0.0, p.0.1, p.1)) (λ r. ((r.0, r.1), r.2))
    (and_second _ _ _ unrelated c.if-not-view_is_below-2.true
    (subst (λ (w : View). Decides c.are_opposed.result (Exists (λ o. Opposed (view_at all i) w o))) c.view-then-not-view_is_below-2.ensures
    (subst (λ (v : View). Decides c.are_opposed.result (Exists (λ o. Opposed v c.view-then-not-view_is_below-2.result.now o))) c.view.ensures c.are_opposed.ensures))
    refl)
