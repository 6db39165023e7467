-- What the rules give along the whole view order, and what is inherited along the others.
use Rattle.std.proofs.Common.{ℕ, ◌<◌, length, sym, refl, subst, inl, inr, ⊎_elim, arith}
use mathlib.Core.Logic.{∥∥₁_elim, ∥∥₁_map, ∥∥₁_prop}
use mathlib.Core.HLevel.{⊥_prop, Π_prop, →_prop, ×_prop}
use native.Mathlib.Nat.{ℕ_set}
use Rattle.std.proofs.lemmas.List.{length-map, get_or_past}
use Rattle.std.proofs.lemmas.Bool.{cases_lt, cases_order}
use Rattle.sets.specs.Members.{In, Iff}
use Rattle.sets.proofs.Membership.{not_in_none}
use Rattle.hierarchy.specs.Order.{Below, links_of}
use Rattle.hierarchy.specs.Paths.{below_refl, below_trans, link_declared}
use Rattle.hierarchy.proofs.Paths.{below_ind}
use Rattle.records.specs.declared.View.{View}
use Rattle.book.specs.declared.contents.Records.{Records}
use Rattle.book.specs.Declarations.{no_view, view_at, Declares}
use Rattle.views.specs.Some.{Exists}
use Rattle.acceptance.specs.Orders.{type_links, role_links, group_links, view_links, OperationOf, RoleOf, MemberOf, SubjectRole}
use Rattle.views.specs.Rights.{Right, weak_permission, strong_permission, weak_denial, strong_denial, Has, Denies, Strong, Becomes}
use Rattle.views.specs.ViewRules.{OneRight, RequirementsFollow, RightsKept, NewPermitted, AssignableDeniesNothing, VirtualHasNone}
use Rattle.acceptance.specs.Rules.{TypeFollows, RestrictionFollows, Rules}
use Rattle.acceptance.specs.Laws.{Extension, Kept}
use Rattle.acceptance.proofs.Inheriting.{set_at}
use Rattle.views.proofs.Rightwise.{stays_permitted, stays_denied, stays_permission, one_apart}

-- ---- rights

becomes_same : (x : Right) → Becomes x x
becomes_same weak_permission = tt
becomes_same strong_permission = tt
becomes_same weak_denial = tt
becomes_same strong_denial = tt

becomes_on : (x y z : Right) → Becomes x y → Becomes y z → Becomes x z
becomes_on weak_permission weak_permission z p q = q
becomes_on weak_permission strong_permission weak_permission p q = absurd q
becomes_on weak_permission strong_permission strong_permission p q = tt
becomes_on weak_permission strong_permission weak_denial p q = absurd q
becomes_on weak_permission strong_permission strong_denial p q = absurd q
becomes_on weak_permission weak_denial z p q = absurd p
becomes_on weak_permission strong_denial z p q = absurd p
becomes_on strong_permission weak_permission z p q = absurd p
becomes_on strong_permission strong_permission z p q = q
becomes_on strong_permission weak_denial z p q = absurd p
becomes_on strong_permission strong_denial z p q = absurd p
becomes_on weak_denial y z p q = tt
becomes_on strong_denial weak_permission z p q = absurd p
becomes_on strong_denial strong_permission z p q = absurd p
becomes_on strong_denial weak_denial z p q = absurd p
becomes_on strong_denial strong_denial z p q = q

-- a strong right stays the same
strong_stays : (v w : View) → RightsKept v w → (x : Right) (o : ℕ) → Strong x → Has w x o → Has v x o
strong_stays v w k weak_permission o s h = absurd s
strong_stays v w k strong_permission o s h = ∥∥₁_elim (k strong_permission o h) (ℕ_set _ _) (λ p. stays_permitted v o p.0 p.1.0 p.1.1)
strong_stays v w k weak_denial o s h = absurd s
strong_stays v w k strong_denial o s h = ∥∥₁_elim (k strong_denial o h) (ℕ_set _ _) (λ p. stays_denied v o p.0 p.1.0 p.1.1)

-- where a view denies, its base denies too, if it has a right at all
base_denies : (v w : View) → OneRight v → RightsKept v w → (x y : Right) (o : ℕ) → Denies y → Has v y o → Has w x o → Denies x
base_denies v w one k weak_permission y o d h m =
    ∥∥₁_elim (k weak_permission o m) ⊥_prop (λ p. (one_apart v one).1 o (stays_permission v o p.0 p.1.0 p.1.1) (y, d, h))
base_denies v w one k strong_permission y o d h m =
    ∥∥₁_elim (k strong_permission o m) ⊥_prop (λ p. (one_apart v one).1 o (inr (stays_permitted v o p.0 p.1.0 p.1.1)) (y, d, h))
base_denies v w one k weak_denial y o d h m = tt
base_denies v w one k strong_denial y o d h m = tt

-- ---- no record, no right

no_right : (x : Right) (o : ℕ) → Has no_view x o → ⊥
no_right weak_permission o h = not_in_none o h
no_right strong_permission o h = not_in_none o h
no_right weak_denial o h = not_in_none o h
no_right strong_denial o h = not_in_none o h

-- what holds of declared views, and of one with no right, holds of every number
of_every : (c : Records) (P : View → Type 0) → ((i : ℕ) → i < length c.views → P (view_at c i)) → P no_view → (i : ℕ) → P (view_at c i)
of_every c P each none i = ⊎_elim (each i) (λ l. subst P (sym (get_or_past c.views i no_view l)) none) (cases_lt i (length c.views))

-- ---- the view order

module _ (c : Records) (d : Declares c) (r : Rules c) where
  -- a link of the view order is a base that the record names
  named : (a b : ℕ) → In b (links_of (view_links c) a) → In b (view_at c a).bases
  named a b h = subst (In b) (set_at (λ v. v.bases) no_view refl c.views a) h

  there : (a b : ℕ) → In b (links_of (view_links c) a) → a < length c.views
  there a b h = let l = link_declared (view_links c) a b h in let e = length-map c.views (λ v. v.bases) in omega arith

  declared_view : (a : ℕ) → a < length (view_links c) → a < length c.views
  declared_view a l = let e = length-map c.views (λ v. v.bases) in omega arith

  type_follows : (i j : ℕ) → Below (view_links c) i j → TypeFollows c (view_at c i) (view_at c j)
  type_follows =
      below_ind (view_links c) (λ i j. TypeFollows c (view_at c i) (view_at c j)) (λ i j. ∥∥₁_prop)
      (λ a l. let t = d.controlled a (declared_view a l) in let e = length-map c.types (λ t. t.supertypes) in below_refl (type_links c) (view_at c a).controlled (omega arith))
      (λ a b w h p. below_trans (type_links c) (view_at c a).controlled (view_at c b).controlled (view_at c w).controlled (r.types a b (there a b h) (named a b h)) p)

  restriction_follows : (i j : ℕ) → Below (view_links c) i j → RestrictionFollows c (view_at c i) (view_at c j)
  restriction_follows =
      below_ind (view_links c) (λ i j. RestrictionFollows c (view_at c i) (view_at c j)) (λ i j. →_prop (×_prop ∥∥₁_prop (Π_prop (λ k. →_prop ∥∥₁_prop))))
      (λ a l m. (
        m,
        λ k h. let t = d.restriction a k h in let e = length-map c.roles (λ r. r.superroles) in ∣ (k, (h, below_refl (role_links c) k (omega arith))) ∣₁,
      ))
      (λ a b w h p m.
      let up = p m in
      let down = r.restrictions a b (there a b h) (named a b h) up.0 in (
        down.0,
        λ k q.
            ∥∥₁_elim (down.1 k q) ∥∥₁_prop
            (λ s. ∥∥₁_map (up.1 s.0 s.1.0) (λ t. (t.0, (t.1.0, below_trans (role_links c) k s.0 t.0 s.1.1 t.1.1)))),
      ))

  requirements_follow : (i j : ℕ) → Below (view_links c) i j → RequirementsFollow (view_at c i) (view_at c j)
  requirements_follow =
      below_ind (view_links c) (λ i j. RequirementsFollow (view_at c i) (view_at c j)) (λ i j. ×_prop (Π_prop (λ k. →_prop (ℕ_set _ _))) (→_prop (ℕ_set _ _)))
      (λ a l. (λ k h. h, λ s. s))
      (λ a b w h p. let q = r.requirements a b (there a b h) (named a b h) in (λ k m. q.0 k (p.0 k m), λ s. q.1 (p.1 s)))

  rights_kept : (i j : ℕ) → Below (view_links c) i j → RightsKept (view_at c i) (view_at c j)
  rights_kept =
      below_ind (view_links c) (λ i j. RightsKept (view_at c i) (view_at c j)) (λ i j. Π_prop (λ x. Π_prop (λ o. →_prop ∥∥₁_prop)))
      (λ a l x o h. ∣ (x, (becomes_same x, h)) ∣₁)
      (λ a b w h p x o m.
      ∥∥₁_elim (p x o m) ∥∥₁_prop
      (λ y. ∥∥₁_map ((r.rights a b (there a b h) (named a b h)).0 y.0 o y.1.1) (λ z. (z.0, (becomes_on x y.0 z.0 y.1.0 z.1.0, z.1.1)))))

  new_permitted : (i j : ℕ) → Below (view_links c) i j → NewPermitted (view_at c i) (view_at c j)
  new_permitted =
      below_ind (view_links c) (λ i j. NewPermitted (view_at c i) (view_at c j)) (λ i j. Π_prop (λ y. Π_prop (λ o. →_prop (→_prop ∥∥₁_prop))))
      (λ a l y o e h. ∣ (y, h) ∣₁)
      (λ a b w h p y o e m.
      let l = there a b h in
      let f = r.rights a b l (named a b h) in
      ∥∥₁_elim (f.1 y o e m) ∥∥₁_prop (λ x. p x.0 o (base_denies (view_at c a) (view_at c b) (r.one_right a l) f.0 x.0 y o e m x.1) x.1))

  extends : (i j : ℕ) → Below (view_links c) i j → Extension c (view_at c i) (view_at c j)
  extends i j p = record {
    typed = type_follows i j p;
    restricted = restriction_follows i j p;
    required = requirements_follow i j p;
    kept = rights_kept i j p;
    new = new_permitted i j p;
    strong = strong_stays (view_at c i) (view_at c j) (rights_kept i j p);
  }

  never_clash : (i j t o : ℕ) → i < length c.views → j < length c.views → (Below (view_links c) i j → ⊥) → (Below (view_links c) j i → ⊥)
      → Below (type_links c) t (view_at c i).controlled → Below (type_links c) t (view_at c j).controlled
      → Has (view_at c i) strong_permission o → Has (view_at c j) strong_denial o → ⊥
  never_clash i j t o l m n k p q h g =
      ⊎_elim
      (λ e. n (subst (Below (view_links c) i) e (below_refl (view_links c) i (let e = length-map c.views (λ v. v.bases) in omega arith))))
      (⊎_elim
      (λ e. r.no_clash i j e m ((n, k, ∣ (o, inl (h, g)) ∣₁), ∣ (t, (p, q)) ∣₁))
      (λ e. r.no_clash j i e l ((k, n, ∣ (o, inr (g, h)) ∣₁), ∣ (t, (q, p)) ∣₁)))
      (cases_order i j)

  -- ---- inheritance

  inherited_operations : (t u o : ℕ) → Below (type_links c) t u → OperationOf c u o → OperationOf c t o
  inherited_operations t u o p q = ∥∥₁_map q (λ s. (s.0, (below_trans (type_links c) t u s.0 p s.1.0, s.1.1)))

  inherited_members : (s g h : ℕ) → MemberOf c s g → Below (group_links c) g h → MemberOf c s h
  inherited_members s g h p q = ∥∥₁_map p (λ m. (m.0, (m.1.0, below_trans (group_links c) m.0 g h m.1.1 q)))

  inherited_roles : (g h k : ℕ) → Below (group_links c) g h → RoleOf c h k → RoleOf c g k
  inherited_roles g h k p q = ∥∥₁_map q (λ s. (s.0, (below_trans (group_links c) g h s.0 p s.1.0, s.1.1)))

  roles_of_groups : (s k : ℕ) → Iff (SubjectRole c s k) (Exists (λ g. MemberOf c s g × RoleOf c g k))
  roles_of_groups s k = (
    λ p.
        ∥∥₁_map p
        (λ m. (m.0, (∣ (m.0, (m.1.0, let l = d.groups s m.0 m.1.0 in let e = length-map c.groups (λ g. g.supergroups) in below_refl (group_links c) m.0 (omega arith))) ∣₁, m.1.1))),
    λ p. ∥∥₁_elim p ∥∥₁_prop (λ g. ∥∥₁_map g.1.0 (λ m. (m.0, (m.1.0, inherited_roles m.0 g.0 k m.1.1 g.1.1)))),
  )

  pub kept : Kept c
  kept = record {
    extension = extends;
    one_right = of_every c OneRight r.one_right (λ x y o n h g. no_right x o h);
    own_operations = of_every c (λ v. (x : Right) (o : ℕ) → Has v x o → OperationOf c v.controlled o) r.own_operations (λ x o h. absurd (no_right x o h));
    assignable = of_every c AssignableDeniesNothing r.assignable (λ m x o e h. no_right x o h);
    virtual = of_every c VirtualHasNone r.virtual (λ m x o h. no_right x o h);
    no_clash = never_clash;
    operations = inherited_operations;
    members = inherited_members;
    group_roles = inherited_roles;
    subject_roles = roles_of_groups;
  }
