-- Rules on rights, as facts on the four sets of operations.
use Rattle.std.proofs.Common.{ℕ, Bool, Decides, ◌⊎◌, sym, refl, subst, inl, inr, ⊎_elim}
use mathlib.Core.Logic.{∥∥₁_elim}
use native.Mathlib.Nat.{ℕ_set}
use Rattle.std.proofs.lemmas.Bool.Decides.{Decides-like}
use Rattle.sets.specs.declared.NumberSet.{NumberSet}
use Rattle.sets.specs.Members.{In, Iff}
use Rattle.records.specs.declared.View.{View}
use Rattle.views.specs.Some.{Exists}
use Rattle.views.specs.Rights.{Right, weak_permission, strong_permission, weak_denial, strong_denial, Has, Denies, Becomes}
use Rattle.views.specs.ViewRules.{OneRight, RightsKept, NewPermitted, RightsFollow}

-- ---- one right for an operation

-- no operation is permitted weakly and strongly
abbrev pub PermissionsApart : View → Type 0
PermissionsApart v = (o : ℕ) → Has v weak_permission o → Has v strong_permission o → ⊥

-- no operation is denied weakly and strongly
abbrev pub DenialsApart : View → Type 0
DenialsApart v = (o : ℕ) → Has v weak_denial o → Has v strong_denial o → ⊥

-- no operation is permitted and denied
abbrev pub ModesApart : View → Type 0
ModesApart v = (o : ℕ) → Has v weak_permission o ⊎ Has v strong_permission o → ((y : Right) × Denies y × Has v y o) → ⊥

abbrev Apart : View → Type 0
Apart v = (PermissionsApart v × DenialsApart v) × ModesApart v

pub apart_one : (v : View) → Apart v → OneRight v
apart_one v a weak_permission weak_permission o n h k = n refl
apart_one v a weak_permission strong_permission o n h k = a.0.0 o h k
apart_one v a weak_permission weak_denial o n h k = a.1 o (inl h) (weak_denial, tt, k)
apart_one v a weak_permission strong_denial o n h k = a.1 o (inl h) (strong_denial, tt, k)
apart_one v a strong_permission weak_permission o n h k = a.0.0 o k h
apart_one v a strong_permission strong_permission o n h k = n refl
apart_one v a strong_permission weak_denial o n h k = a.1 o (inr h) (weak_denial, tt, k)
apart_one v a strong_permission strong_denial o n h k = a.1 o (inr h) (strong_denial, tt, k)
apart_one v a weak_denial weak_permission o n h k = a.1 o (inl k) (weak_denial, tt, h)
apart_one v a weak_denial strong_permission o n h k = a.1 o (inr k) (weak_denial, tt, h)
apart_one v a weak_denial weak_denial o n h k = n refl
apart_one v a weak_denial strong_denial o n h k = a.0.1 o h k
apart_one v a strong_denial weak_permission o n h k = a.1 o (inl k) (strong_denial, tt, h)
apart_one v a strong_denial strong_permission o n h k = a.1 o (inr k) (strong_denial, tt, h)
apart_one v a strong_denial weak_denial o n h k = a.0.1 o k h
apart_one v a strong_denial strong_denial o n h k = n refl

pub one_apart : (v : View) → OneRight v → Apart v
one_apart v one = (
  (
    λ o. one weak_permission strong_permission o (λ e. cc),
    λ o. one weak_denial strong_denial o (λ e. cc),
  ),
  λ o p d.
      ⊎_elim
      (λ h. one weak_permission d.0 o (λ e. subst Denies (sym e) d.1) h d.2)
      (λ h. one strong_permission d.0 o (λ e. subst Denies (sym e) d.1) h d.2)
      p,
)

-- ---- rights follow

-- the right of the base is there in an allowed form
abbrev pub KeptRight : View → View → Right → Type 0
KeptRight v w x = (o : ℕ) → Has w x o → Exists (λ y. Becomes x y × Has v y o)

pub all_follow : (v w : View) → ((((KeptRight v w weak_permission × KeptRight v w strong_permission) × KeptRight v w weak_denial) × KeptRight v w strong_denial) × NewPermitted v w) → RightsFollow v w
all_follow v w p = (kept, p.1)
  where
    kept : RightsKept v w
    kept weak_permission = p.0.0.0.0
    kept strong_permission = p.0.0.0.1
    kept weak_denial = p.0.0.1
    kept strong_denial = p.0.1

pub follow_all : (v w : View) → RightsFollow v w → (((KeptRight v w weak_permission × KeptRight v w strong_permission) × KeptRight v w weak_denial) × KeptRight v w strong_denial) × NewPermitted v w
follow_all v w f = ((((f.0 weak_permission, f.0 strong_permission), f.0 weak_denial), f.0 strong_denial), f.1)

-- a strong right stays the same
pub stays_permitted : (v : View) (o : ℕ) (y : Right) → Becomes strong_permission y → Has v y o → Has v strong_permission o
stays_permitted v o weak_permission b h = absurd b
stays_permitted v o strong_permission b h = h
stays_permitted v o weak_denial b h = absurd b
stays_permitted v o strong_denial b h = absurd b

pub stays_denied : (v : View) (o : ℕ) (y : Right) → Becomes strong_denial y → Has v y o → Has v strong_denial o
stays_denied v o weak_permission b h = absurd b
stays_denied v o strong_permission b h = absurd b
stays_denied v o weak_denial b h = absurd b
stays_denied v o strong_denial b h = h

-- a weak permission stays a permission
pub stays_permission : (v : View) (o : ℕ) (y : Right) → Becomes weak_permission y → Has v y o → Has v weak_permission o ⊎ Has v strong_permission o
stays_permission v o weak_permission b h = inl h
stays_permission v o strong_permission b h = inr h
stays_permission v o weak_denial b h = absurd b
stays_permission v o strong_denial b h = absurd b

-- a set has what a right may become
abbrev pub HasBecome : View → Right → NumberSet → Type 0
HasBecome v x s = (o : ℕ) → Iff (In o s) (Exists (λ y. Becomes x y × Has v y o))

pub become_permissions : (v : View) (s : NumberSet) → ((o : ℕ) → Iff (In o s) (Has v weak_permission o ⊎ Has v strong_permission o)) → HasBecome v weak_permission s
become_permissions v s i o = (
  λ h. ⊎_elim (λ k. ∣ (weak_permission, (tt, k)) ∣₁) (λ k. ∣ (strong_permission, (tt, k)) ∣₁) ((i o).0 h),
  λ e. ∥∥₁_elim e (ℕ_set _ _) (λ p. (i o).1 (stays_permission v o p.0 p.1.0 p.1.1)),
)

pub become_strong_permissions : (v : View) → HasBecome v strong_permission v.strong.permitted
become_strong_permissions v o = (λ h. ∣ (strong_permission, (tt, h)) ∣₁, λ e. ∥∥₁_elim e (ℕ_set _ _) (λ p. stays_permitted v o p.0 p.1.0 p.1.1))

pub become_rights : (v : View) (s : NumberSet) → ((o : ℕ) → Iff (In o s) ((x : Right) × Has v x o)) → HasBecome v weak_denial s
become_rights v s i o = (λ h. let k = (i o).0 h in ∣ (k.0, (tt, k.1)) ∣₁, λ e. ∥∥₁_elim e (ℕ_set _ _) (λ p. (i o).1 (p.0, p.1.1)))

pub become_strong_denials : (v : View) → HasBecome v strong_denial v.strong.denied
become_strong_denials v o = (λ h. ∣ (strong_denial, (tt, h)) ∣₁, λ e. ∥∥₁_elim e (ℕ_set _ _) (λ p. stays_denied v o p.0 p.1.0 p.1.1))

-- a test that this set has what the base has is one of the right
pub kept_in : (v w : View) (x : Right) (s : NumberSet) → HasBecome v x s → (r : Bool) → Decides r ((o : ℕ) → Has w x o → In o s) → Decides r (KeptRight v w x)
kept_in v w x s i r = Decides-like r (λ k o h. (i o).0 (k o h)) (λ k o h. (i o).1 (k o h))

pub new_in : (v w : View) (denials rights : NumberSet) → ((o : ℕ) → Iff (In o denials) ((y : Right) × Denies y × Has v y o)) → ((o : ℕ) → Iff (In o rights) ((x : Right) × Has w x o))
    → (r : Bool) → Decides r ((o : ℕ) → In o denials → In o rights) → Decides r (NewPermitted v w)
new_in v w denials rights i j r =
    Decides-like r
    (λ k y o d h. ∣ (j o).0 (k o ((i o).1 (y, d, h))) ∣₁)
    (λ n o h. let p = (i o).0 h in ∥∥₁_elim (n p.0 o p.1 p.2) (ℕ_set _ _) (λ q. (j o).1 q))
