use Rattle.std.proofs.lemmas.Bool.Decides.{Decides-like}
use Rattle.acceptance.proofs.orders.Orders.has_own_operations.Goals as goal

pub returns : goal.returns
returns g c =
    let own = rw c.from.ensures at c.operations.ensures in
    let mine = c.rights.ensures in
    Decides-like _ (λ h x o p. (own o).0 (h o ((mine o).1 (x, p)))) (λ h o p. let q = (mine o).0 p in (own o).1 (h q.0 o q.1)) c.is_subset.ensures
