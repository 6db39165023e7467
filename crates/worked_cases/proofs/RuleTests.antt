-- Tests of the rules that look along the orders of a book, and all tests in the order of the checks.
use Rattle.std.proofs.Common.{◌≡◌, ℕ, zero, suc, ◌^◌, ◌<◌, Bool, true, not, ◌&&◌, ◌||◌, ltb, leb, List, [], ◌∷◌, ◌++◌, length, get_or, Some, None, refl, arith}
use mathlib.Core.Logic.{∥∥₁_map}
use Rattle.std.proofs.lemmas.List.{length-map}
use Rattle.std.proofs.lemmas.Bool.{ltb-true, leb-true, and_parts}
use Rattle.sets.specs.Members.{Bit, In, Iff, none}
use Rattle.hierarchy.specs.Order.{Falling, Below}
use Rattle.hierarchy.specs.Paths.{below_within}
use Rattle.records.specs.declared.View.{View}
use Rattle.book.specs.declared.contents.Records.{Records}
use Rattle.book.specs.Declarations.{Declares, type_at, view_at, no_view}
use Rattle.acceptance.specs.declared.rejection.Rule.TheVariants.{TwoRights, ForeignOperation, AssignableDenial, VirtualRight, ControlledType, RoleRestriction, Requirement, Redefinition, Clashing}
use Rattle.views.specs.Some.{Exists}
use Rattle.acceptance.specs.Orders.{type_links, role_links, view_links, OperationOf}
use Rattle.acceptance.specs.Rules.{OwnOperations, RestrictionFollows, Clash, Shared}
use Rattle.acceptance.specs.Rejections.{breach}
use Rattle.acceptance.specs.Checks.{of_view, of_base, of_pair, of_view_and_bases, up_to, checks}
use Rattle.acceptance.proofs.Inheriting.{falling}
use Rattle.worked_cases.proofs.Telling.{Tells, tells_also, tells_not, tells_and, tells_if, tells_less, every_below, tells_every, some_below, tells_some}
use Rattle.worked_cases.proofs.SetTests.{has, tells_has, within, tells_within, bare, tells_inhabited, gathered, in_gathered, gathered_small}
use Rattle.worked_cases.proofs.OrderTests.{above, in_above, tells_below}
use Rattle.worked_cases.proofs.RightTests.{small, small_view, Small, small_view_lem, rights, in_rights, small_rights, one_right_test, tells_one_right, assignable_denies_nothing_test, tells_assignable, virtual_has_none_test, tells_virtual, requirements_follow_test, tells_requirements, rights_follow_test, tells_rights, opposed, tells_opposed}
use Rattle.worked_cases.proofs.Trials.{Trial, trial, trials_up_to, Matched, end, next, matched_both, matched_each}

-- ---- how large the records are

-- each of the list passes the test
abbrev pub every_of : {A : Type 0} → (A → Bool) → List A → Bool
every_of f [] = true
every_of f (x ∷ xs) = f x && every_of f xs

every_at : {A : Type 0} (f : A → Bool) (d : A) → f d ≡ true → (xs : List A) → every_of f xs ≡ true → (i : ℕ) → f (get_or xs i d) ≡ true
every_at f d e [] h i = e
every_at f d e (x ∷ xs) h zero = (and_parts (f x) (every_of f xs) h).0
every_at f d e (x ∷ xs) h (suc i) = every_at f d e xs (and_parts (f x) (every_of f xs) h).1 i

-- at most 64 of a kind, and sets of numbers below 64
abbrev pub sized : Records → Bool
sized c =
    (leb (length c.types) 64 && leb (length c.roles) 64 && leb (length c.views) 64)
    && (every_of (λ t. small t.operations.bits) c.types && every_of small_view c.views)

-- the same as facts, with the orders
pub record Sized (c : Records) : Type 0 where
  pub types : Falling (type_links c)
  pub roles : Falling (role_links c)
  pub views : Falling (view_links c)
  pub operations : (i : ℕ) → (type_at c i).operations.bits < 2 ^ 64
  pub view : (i : ℕ) → Small (view_at c i)

pub sized_so : (c : Records) → Declares c → sized c ≡ true → Sized c
sized_so c d e =
    let a = and_parts _ _ e in
    let p = and_parts _ _ a.0 in
    let q = and_parts _ _ p.0 in
    let r = and_parts _ _ a.1 in
    record {
      types = falling (λ t. t.supertypes) (record { place = 0; supertypes = none; operations = none }) refl c.types (leb-true _ _ q.0) d.supertypes;
      roles = falling (λ t. t.superroles) (record { place = 0; superroles = none }) refl c.roles (leb-true _ _ q.1) d.superroles;
      views = falling (λ t. t.bases) no_view refl c.views (leb-true _ _ p.1) d.bases;
      operations = λ i. ltb-true _ _ (every_at (λ t. small t.operations.bits) (record { place = 0; supertypes = none; operations = none }) refl c.types r.0 i);
      view = λ i. small_view_lem _ (every_at small_view no_view refl c.views r.1 i);
    }

-- ---- the tests

-- the operations of a type
abbrev pub operations_of : Records → ℕ → ℕ
operations_of c t = gathered (length c.types) (above (type_links c) t) (λ s. (type_at c s).operations.bits)

-- rights are for operations of the controlled type only
abbrev pub own_operations_test : Records → View → Bool
own_operations_test c v = within (rights v) (operations_of c v.controlled)

-- the controlled type is at or below that of the base
abbrev pub type_follows_test : Records → View → View → Bool
type_follows_test c v w = has w.controlled (above (type_links c) v.controlled)

-- where the base is restricted, so is the view, and only to roles at or below those of the base
abbrev pub restriction_follows_test : Records → View → View → Bool
restriction_follows_test c v w =
    not (not (bare w.restriction.bits))
    || (not (bare v.restriction.bits)
    && every_below (length c.roles) (λ r. not (has r v.restriction.bits) || some_below (length c.roles) (λ s. has s w.restriction.bits && has s (above (role_links c) r))))

-- two views clash
abbrev pub clash : Records → ℕ → ℕ → Bool
clash c i j =
    ((not (has j (above (view_links c) i)) && not (has i (above (view_links c) j))) && opposed (view_at c i) (view_at c j))
    && some_below (length c.types) (λ t. has (view_at c i).controlled (above (type_links c) t) && has (view_at c j).controlled (above (type_links c) t))

module _ (c : Records) (d : Declares c) (s : Sized c) where
  in_operations : (t o : ℕ) → Iff (Bit o (operations_of c t)) (OperationOf c t o)
  in_operations t o =
      let g = in_gathered (length c.types) (above (type_links c) t) (λ s. (type_at c s).operations.bits) o in
      let n = length-map c.types (λ t. t.supertypes) in (
        λ h. ∥∥₁_map (g.0 h) (λ p. (p.0, ((in_above (type_links c) s.types t p.0).0 p.1.1, p.1.2))),
        λ h. g.1 (∥∥₁_map h (λ p. (p.0, (omega (arith, (below_within (type_links c) s.types t p.0 p.1.0).1), (in_above (type_links c) s.types t p.0).1 p.1.0, p.1.1)))),
      )

  tells_own : (i : ℕ) → Tells (own_operations_test c (view_at c i)) (OwnOperations c (view_at c i))
  tells_own i =
      let v = view_at c i in
      tells_also (
        λ h x o p. (in_operations v.controlled o).0 (h o ((in_rights v o).1 (x, p))),
        λ h o p. let q = (in_rights v o).0 p in (in_operations v.controlled o).1 (h q.0 o q.1),
      )
      (tells_within (rights v) (operations_of c v.controlled) (small_rights v (s.view i))
      (gathered_small (length c.types) (above (type_links c) v.controlled) (λ s. (type_at c s).operations.bits) s.operations))

  tells_restriction : (i b : ℕ) → Tells (restriction_follows_test c (view_at c i) (view_at c b)) (RestrictionFollows c (view_at c i) (view_at c b))
  tells_restriction i b =
      let v = view_at c i in
      let w = view_at c b in
      tells_if (tells_inhabited w.restriction.bits (s.view b).restriction)
      (tells_and (tells_inhabited v.restriction.bits (s.view i).restriction)
      (tells_also (
        λ h r p. ∥∥₁_map (h r (d.restriction i r p) p) (λ q. (q.0, q.1.1)),
        λ h r l p. ∥∥₁_map (h r p) (λ q. (q.0, (d.restriction b q.0 q.1.0, q.1))),
      )
      (tells_every (length c.roles) _ (λ r. In r v.restriction → Exists (λ k. (k < length c.roles) × (In k w.restriction × Below (role_links c) r k)))
      (λ r.
      tells_if (tells_has r v.restriction.bits)
      (tells_some (length c.roles) _ (λ k. In k w.restriction × Below (role_links c) r k)
      (λ k. tells_and (tells_has k w.restriction.bits) (tells_below (role_links c) s.roles r k)))))))

  tells_clash : (i j : ℕ) → Tells (clash c i j) (Clash c i j)
  tells_clash i j =
      let n = length-map c.types (λ t. t.supertypes) in
      tells_and
      (tells_also (λ p. (p.0.0, p.0.1, p.1), λ p. ((p.0, p.1), p.2))
      (tells_and
      (tells_and (tells_not (tells_below (view_links c) s.views i j)) (tells_not (tells_below (view_links c) s.views j i)))
      (tells_opposed (view_at c i) (view_at c j) (s.view i) (s.view j))))
      (tells_also (
        λ p. ∥∥₁_map p (λ q. (q.0, q.1.1)),
        λ p. ∥∥₁_map p (λ q. (q.0, (omega (arith, (below_within (type_links c) s.types q.0 (view_at c i).controlled q.1.0).0), q.1))),
      )
      (tells_some (length c.types) _ (Shared c i j)
      (λ t. tells_and (tells_below (type_links c) s.types t (view_at c i).controlled) (tells_below (type_links c) s.types t (view_at c j).controlled))))

-- ---- all of them, in the order of the checks

-- of a view by itself
abbrev pub view_trials : Records → View → List Trial
view_trials c v =
    trial (breach TwoRights v None) (one_right_test v)
    ∷ trial (breach ForeignOperation v None) (own_operations_test c v)
    ∷ trial (breach AssignableDenial v None) (assignable_denies_nothing_test v)
    ∷ trial (breach VirtualRight v None) (virtual_has_none_test v)
    ∷ []

-- of a view against the view of number b, where it names that one as a base
abbrev pub base_trials : Records → View → ℕ → List Trial
base_trials c v b =
    trial (breach ControlledType v (Some b)) (not (has b v.bases.bits) || type_follows_test c v (view_at c b))
    ∷ trial (breach RoleRestriction v (Some b)) (not (has b v.bases.bits) || restriction_follows_test c v (view_at c b))
    ∷ trial (breach Requirement v (Some b)) (not (has b v.bases.bits) || requirements_follow_test v (view_at c b))
    ∷ trial (breach Redefinition v (Some b)) (not (has b v.bases.bits) || rights_follow_test v (view_at c b))
    ∷ []

-- of two views, the lower number first
abbrev pub pair_trials : Records → ℕ → ℕ → List Trial
pair_trials c i j = trial (breach Clashing (view_at c i) (Some j)) (not (ltb i j) || not (clash c i j)) ∷ []

-- view by view, and then pair by pair
abbrev pub trials : Records → List Trial
trials c =
    trials_up_to (length c.views) (λ i. view_trials c (view_at c i) ++ trials_up_to (length c.views) (base_trials c (view_at c i)))
    ++ trials_up_to (length c.views) (λ i. trials_up_to (length c.views) (pair_trials c i))

module _ (c : Records) (d : Declares c) (s : Sized c) where
  view_matched : (i : ℕ) → Matched (of_view c (view_at c i)) (view_trials c (view_at c i))
  view_matched i =
      let v = view_at c i in
      next (tells_one_right v (s.view i)) (next (tells_own c d s i) (next (tells_assignable v (s.view i)) (next (tells_virtual v (s.view i)) end)))

  base_matched : (i b : ℕ) → Matched (of_base c (view_at c i) b) (base_trials c (view_at c i) b)
  base_matched i b =
      let v = view_at c i in
      let w = view_at c b in
      let named : Tells (has b v.bases.bits) (In b v.bases) = tells_has b v.bases.bits in
      next (tells_if named (tells_below (type_links c) s.types v.controlled w.controlled))
      (next (tells_if named (tells_restriction c d s i b))
      (next (tells_if named (tells_requirements v w (s.view i) (s.view b)))
      (next (tells_if named (tells_rights v w (s.view i) (s.view b))) end)))

  pair_matched : (i j : ℕ) → Matched (of_pair c i j) (pair_trials c i j)
  pair_matched i j = next (tells_if (tells_less i j) (tells_not (tells_clash c d s i j))) end

  -- each test tells whether its check passes
  pub all_matched : Matched (checks c) (trials c)
  all_matched =
      matched_both
      (matched_each (length c.views) (of_view_and_bases c) _ (λ i. matched_both (view_matched i) (matched_each (length c.views) (of_base c (view_at c i)) _ (base_matched i))))
      (matched_each (length c.views) (λ i. up_to (length c.views) (of_pair c i)) _ (λ i. matched_each (length c.views) (of_pair c i) _ (pair_matched i)))
