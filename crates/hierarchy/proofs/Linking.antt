-- Links taken from records, as a list.
use Rattle.std.specs.Prelude.{◌≡◌, ℕ, ◌+◌, ◌<◌, ◌≤◌, List, map, length, take, slice_index_or, slice_set}
use Rattle.std.proofs.Common.{sym, ap, subst, ◌∙◌, ⊎_elim, arith}
use Rattle.std.proofs.lemmas.List.{length-take-le, length-set, get_or-take, get_or-map, get_or-set_same, get_or-set_other, ext_get_or}
use Rattle.std.proofs.lemmas.Bool.{cases_eq}
use Rattle.sets.specs.declared.NumberSet.{NumberSet}
use Rattle.sets.specs.Members.{In}
use Rattle.hierarchy.specs.Order.{none, links_of, Falling}
use Rattle.hierarchy.specs.Paths.{link_declared}

-- the set of the record at i, in the list of all records' sets
pub read_at : {X : Type 0} (f : X → NumberSet) (xs : List X) (i : ℕ) (x : X) (y : NumberSet) → i < length xs → x ≡ slice_index_or xs i x → y ≡ f x → y ≡ links_of (map f xs) i
read_at f xs i x y l e q = q ∙ ap f e ∙ sym (get_or-map f xs i x none l)

-- the first i rows are the first i sets, and these fall
pub record Filled (sets rows : List NumberSet) (i : ℕ) : Type 0 where
  pub sized : length rows ≡ 64
  pub same : (j : ℕ) → j < i → links_of rows j ≡ links_of sets j
  pub falls : (j b : ℕ) → j < i → In b (links_of sets j) → b < j

pub filled_more : (sets rows : List NumberSet) (i : ℕ) (x : NumberSet) → i < 64 → Filled sets rows i → x ≡ links_of sets i → ((b : ℕ) → In b x → b < i) → Filled sets (slice_set rows i x) (i + 1)
filled_more sets rows i x l f e h =
    let s = f.sized in
    let k : i < length rows = omega arith in record {
      sized = length-set rows i x ∙ s;
      same = λ j m.
          ⊎_elim
          (λ q. ap (links_of (slice_set rows i x)) q ∙ get_or-set_same rows i x none k ∙ e ∙ ap (links_of sets) (sym q))
          (λ q. get_or-set_other rows i j x none q ∙ f.same j (omega (arith, q)))
          (cases_eq j i);
      falls = λ j b m p.
          ⊎_elim
          (λ q. let r = h b (subst (In b) (sym e) (subst (λ y. In b (links_of sets y)) q p)) in omega arith)
          (λ q. f.falls j b (omega (arith, q)) p)
          (cases_eq j i);
    }

pub filled_done : (sets rows : List NumberSet) (n i : ℕ) → n ≡ length sets → n ≤ i → n ≤ 64 → Filled sets rows i → Falling (take n rows) × (take n rows ≡ sets)
filled_done sets rows n i e m l f =
    let s = f.sized in
    let t = length-take-le n rows (omega arith) in
    let same : take n rows ≡ sets = ext_get_or none (take n rows) sets (omega arith) (λ j k. get_or-take n rows j none (omega arith) ∙ f.same j (omega arith)) in
    let falls : Falling sets = (omega arith, λ j b h. let d = link_declared sets j b h in f.falls j b (omega arith) h) in
    (subst Falling (sym same) falls, same)
