-- The kept links, as a list.
use Rattle.std.specs.Prelude.{◌≡◌, ℕ, ◌<◌, ◌≤◌, length}
use Rattle.std.proofs.Common.{sym, subst}
use Rattle.std.proofs.lemmas.List.{length-take-le, get_or-take}
use Rattle.sets.specs.Members.{In}
use Rattle.hierarchy.specs.declared.links.Links.{Links}
use Rattle.hierarchy.specs.Order.{none, links_of, Falling}
use Rattle.hierarchy.specs.Linking.{linked}
use Rattle.hierarchy.specs.Paths.{link_declared}

pub length_linked : (l : Links) → length (linked l) ≡ l.len
length_linked l = length-take-le l.len l.rows (subst (λ n. l.len ≤ n) (sym l.sized) l.few)

pub links_at : (l : Links) (i : ℕ) → i < l.len → links_of (linked l) i ≡ links_of l.rows i
links_at l i h = get_or-take l.len l.rows i none h

pub falling : (l : Links) → Falling (linked l)
falling l =
    let e = length_linked l in (
      subst (λ n. n ≤ 64) (sym e) l.few,
      λ i b h. let k : i < l.len = subst (λ n. i < n) e (link_declared (linked l) i b h) in l.falls i b (k, subst (In b) (links_at l i k) h),
    )
