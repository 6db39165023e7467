-- Tests of the rules on one view, or on two, that look only at their own sets.
use Rattle.std.proofs.Common.{◌≡◌, ℕ, ◌^◌, ◌<◌, Bool, true, not, ◌&&◌, ◌||◌, ltb, ◌⊎◌, inl, inr, ⊎_elim}
use mathlib.Core.Logic.{∥∥₁_elim, ∥∥₁_map, ∥∥₁_prop}
use lib.Bits.{bit_or, or_lt}
use Rattle.std.proofs.lemmas.Bool.{ltb-true, and_parts}
use Rattle.sets.specs.Members.{Bit, Iff}
use Rattle.sets.proofs.Membership as member
use Rattle.records.specs.declared.View.{View}
use Rattle.views.specs.Some.{Exists}
use Rattle.views.specs.Rights.{Right, weak_permission, strong_permission, weak_denial, strong_denial, operations_with, Has, Denies}
use Rattle.views.specs.ViewRules.{OneRight, AssignableDeniesNothing, VirtualHasNone, RequirementsFollow, RightsFollow, Opposed}
use Rattle.views.proofs.Rightwise.{apart_one, one_apart, all_follow, follow_all, become_permissions, become_strong_permissions, become_rights, become_strong_denials, kept_in, new_in}
use Rattle.worked_cases.proofs.Telling.{Tells, tells_also, tells_and, tells_or, tells_if}
use Rattle.worked_cases.proofs.SetTests.{has, tells_has, within, tells_within, bare, tells_bare, apart, tells_apart, tells_meet}

-- ---- the sets of a view

-- the set is one of numbers below 64
abbrev pub small : ℕ → Bool
small s = ltb s (2 ^ 64)

-- the view's sets are of numbers below 64
abbrev pub small_view : View → Bool
small_view v =
    (small v.required.bits && small v.restriction.bits)
    && ((small v.weak.permitted.bits && small v.strong.permitted.bits)
    && (small v.weak.denied.bits && small v.strong.denied.bits))

pub record Small (v : View) : Type 0 where
  pub required : v.required.bits < 2 ^ 64
  pub restriction : v.restriction.bits < 2 ^ 64
  pub right : (x : Right) → (operations_with v x).bits < 2 ^ 64

pub small_view_lem : (v : View) → small_view v ≡ true → Small v
small_view_lem v e =
    let a = and_parts _ _ e in
    let b = and_parts _ _ a.0 in
    let c = and_parts _ _ a.1 in
    let p = and_parts _ _ c.0 in
    let q = and_parts _ _ c.1 in
    record {
      required = ltb-true _ _ b.0;
      restriction = ltb-true _ _ b.1;
      right = λ x. elim x as (λ x. (operations_with v x).bits < 2 ^ 64) [
        | weak_permission ↦ ltb-true _ _ p.0
        | strong_permission ↦ ltb-true _ _ p.1
        | weak_denial ↦ ltb-true _ _ q.0
        | strong_denial ↦ ltb-true _ _ q.1
      ];
    }

-- what a view permits, what it denies, and both
abbrev pub permissions : View → ℕ
permissions v = bit_or v.weak.permitted.bits v.strong.permitted.bits

abbrev pub denials : View → ℕ
denials v = bit_or v.weak.denied.bits v.strong.denied.bits

abbrev pub rights : View → ℕ
rights v = bit_or (permissions v) (denials v)

in_permissions : (v : View) (o : ℕ) → Iff (Bit o (permissions v)) (Has v weak_permission o ⊎ Has v strong_permission o)
in_permissions v o = member.in_or o v.weak.permitted.bits v.strong.permitted.bits

denied_in : (v : View) (o : ℕ) (y : Right) → Denies y → Has v y o → Bit o (denials v)
denied_in v o weak_permission d h = absurd d
denied_in v o strong_permission d h = absurd d
denied_in v o weak_denial d h = (member.in_or o v.weak.denied.bits v.strong.denied.bits).1 (inl h)
denied_in v o strong_denial d h = (member.in_or o v.weak.denied.bits v.strong.denied.bits).1 (inr h)

in_denials : (v : View) (o : ℕ) → Iff (Bit o (denials v)) ((y : Right) × Denies y × Has v y o)
in_denials v o = (
  λ h. ⊎_elim (λ p. (weak_denial, tt, p)) (λ p. (strong_denial, tt, p)) ((member.in_or o v.weak.denied.bits v.strong.denied.bits).0 h),
  λ p. denied_in v o p.0 p.1 p.2,
)

right_in : (v : View) (o : ℕ) (x : Right) → Has v x o → Bit o (rights v)
right_in v o weak_permission h = (member.in_or o (permissions v) (denials v)).1 (inl ((in_permissions v o).1 (inl h)))
right_in v o strong_permission h = (member.in_or o (permissions v) (denials v)).1 (inl ((in_permissions v o).1 (inr h)))
right_in v o weak_denial h = (member.in_or o (permissions v) (denials v)).1 (inr (denied_in v o weak_denial tt h))
right_in v o strong_denial h = (member.in_or o (permissions v) (denials v)).1 (inr (denied_in v o strong_denial tt h))

pub in_rights : (v : View) (o : ℕ) → Iff (Bit o (rights v)) ((x : Right) × Has v x o)
in_rights v o = (
  λ h.
      ⊎_elim
      (λ p. ⊎_elim (λ q. (weak_permission, q)) (λ q. (strong_permission, q)) ((in_permissions v o).0 p))
      (λ p. let q = (in_denials v o).0 p in (q.0, q.2))
      ((member.in_or o (permissions v) (denials v)).0 h),
  λ p. right_in v o p.0 p.1,
)

small_permissions : (v : View) → Small v → permissions v < 2 ^ 64
small_permissions v s = or_lt 64 _ _ (s.right weak_permission) (s.right strong_permission)

small_denials : (v : View) → Small v → denials v < 2 ^ 64
small_denials v s = or_lt 64 _ _ (s.right weak_denial) (s.right strong_denial)

pub small_rights : (v : View) → Small v → rights v < 2 ^ 64
small_rights v s = or_lt 64 _ _ (small_permissions v s) (small_denials v s)

-- ---- of a view by itself

-- no operation has two rights
abbrev pub one_right_test : View → Bool
one_right_test v =
    apart v.weak.permitted.bits v.strong.permitted.bits
    && apart v.weak.denied.bits v.strong.denied.bits
    && apart (permissions v) (denials v)

pub tells_one_right : (v : View) → Small v → Tells (one_right_test v) (OneRight v)
tells_one_right v s =
    tells_also (
      λ p. apart_one v (p.0, λ o h k. p.1 o ((in_permissions v o).1 h) ((in_denials v o).1 k)),
      λ one. let a = one_apart v one in (a.0, λ o h k. a.1 o ((in_permissions v o).0 h) ((in_denials v o).0 k)),
    )
    (tells_and
    (tells_and
    (tells_apart _ _ (s.right weak_permission) (s.right strong_permission))
    (tells_apart _ _ (s.right weak_denial) (s.right strong_denial)))
    (tells_apart (permissions v) (denials v) (small_permissions v s) (small_denials v s)))

-- an assignable view denies nothing
abbrev pub assignable_denies_nothing_test : View → Bool
assignable_denies_nothing_test v = not (has 0 v.modifiers) || bare (denials v)

pub tells_assignable : (v : View) → Small v → Tells (assignable_denies_nothing_test v) (AssignableDeniesNothing v)
tells_assignable v s =
    tells_also (
      λ f a x o d h. f a o ((in_denials v o).1 (x, d, h)),
      λ f a o h. let p = (in_denials v o).0 h in f a p.0 o p.1 p.2,
    )
    (tells_if (tells_has 0 v.modifiers) (tells_bare (denials v) (small_denials v s)))

-- a virtual view has no right
abbrev pub virtual_has_none_test : View → Bool
virtual_has_none_test v = not (has 1 v.modifiers) || bare (rights v)

pub tells_virtual : (v : View) → Small v → Tells (virtual_has_none_test v) (VirtualHasNone v)
tells_virtual v s =
    tells_also (
      λ f a x o h. f a o ((in_rights v o).1 (x, h)),
      λ f a o h. let p = (in_rights v o).0 h in f a p.0 o p.1,
    )
    (tells_if (tells_has 1 v.modifiers) (tells_bare (rights v) (small_rights v s)))

-- ---- of a view and its base

-- what the base requires is required, and where the base is static, so is the view
abbrev pub requirements_follow_test : View → View → Bool
requirements_follow_test v w = within w.required.bits v.required.bits && (not (has 2 w.modifiers) || has 2 v.modifiers)

pub tells_requirements : (v w : View) → Small v → Small w → Tells (requirements_follow_test v w) (RequirementsFollow v w)
tells_requirements v w s t =
    tells_and (tells_within _ _ t.required s.required) (tells_if (tells_has 2 w.modifiers) (tells_has 2 v.modifiers))

-- every right of the base is there in an allowed form, and what is new is permitted
abbrev pub rights_follow_test : View → View → Bool
rights_follow_test v w =
    within w.weak.permitted.bits (permissions v)
    && within w.strong.permitted.bits v.strong.permitted.bits
    && within w.weak.denied.bits (rights v)
    && within w.strong.denied.bits v.strong.denied.bits
    && within (denials v) (rights w)

pub tells_rights : (v w : View) → Small v → Small w → Tells (rights_follow_test v w) (RightsFollow v w)
tells_rights v w s t =
    tells_also (all_follow v w, follow_all v w)
    (tells_and
    (tells_and
    (tells_and
    (tells_and
    (record { decides = kept_in v w weak_permission _ (become_permissions v (record { bits = permissions v }) (in_permissions v)) _ (tells_within _ _ (t.right weak_permission) (small_permissions v s)).decides })
    (record { decides = kept_in v w strong_permission _ (become_strong_permissions v) _ (tells_within _ _ (t.right strong_permission) (s.right strong_permission)).decides }))
    (record { decides = kept_in v w weak_denial _ (become_rights v (record { bits = rights v }) (in_rights v)) _ (tells_within _ _ (t.right weak_denial) (small_rights v s)).decides }))
    (record { decides = kept_in v w strong_denial _ (become_strong_denials v) _ (tells_within _ _ (t.right strong_denial) (s.right strong_denial)).decides }))
    (record { decides = new_in v w (record { bits = denials v }) (record { bits = rights w }) (in_denials v) (in_rights w) _ (tells_within _ _ (small_denials v s) (small_rights w t)).decides }))

-- ---- of two views

-- they hold strong rights of opposite mode for some operation
abbrev pub opposed : View → View → Bool
opposed v w = not (apart v.strong.permitted.bits w.strong.denied.bits) || not (apart v.strong.denied.bits w.strong.permitted.bits)

pub tells_opposed : (v w : View) → Small v → Small w → Tells (opposed v w) (Exists (λ o. Opposed v w o))
tells_opposed v w s t =
    tells_also (
      λ p. ∥∥₁_elim p ∥∥₁_prop (⊎_elim (λ q. ∥∥₁_map q (λ o. (o.0, inl o.1))) (λ q. ∥∥₁_map q (λ o. (o.0, inr o.1)))),
      λ p. ∥∥₁_map p (λ o. ⊎_elim (λ h. inl ∣ (o.0, h) ∣₁) (λ h. inr ∣ (o.0, h) ∣₁) o.1),
    )
    (tells_or
    (tells_meet _ _ (s.right strong_permission) (t.right strong_denial))
    (tells_meet _ _ (s.right strong_denial) (t.right strong_permission)))
