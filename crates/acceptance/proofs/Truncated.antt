-- What an accepted book is, out of the invariant that the book carries.
use mathlib.Core.Logic.{∥∥₁_elim, ∥∥₁_prop}
use mathlib.Core.HLevel.{⊥_prop}
use native.Mathlib.Bridge.{le_prop}
use native.Mathlib.Nat.{ℕ_set}
use Rattle.book.specs.declared.contents.Records.{Records}
use Rattle.book.specs.Declarations.{Declares}
use Rattle.acceptance.specs.Rules.{Rules, Accepted}

module _ (c : Records) (t : ∥ Accepted c ∥₁) where
  pub declared_of : Declares c
  declared_of = record {
    supertypes = λ i k h. ∥∥₁_elim t le_prop (λ a. a.0.supertypes i k h);
    superroles = λ i k h. ∥∥₁_elim t le_prop (λ a. a.0.superroles i k h);
    supergroups = λ i k h. ∥∥₁_elim t le_prop (λ a. a.0.supergroups i k h);
    group_roles = λ i k h. ∥∥₁_elim t le_prop (λ a. a.0.group_roles i k h);
    controlled = λ i l. ∥∥₁_elim t le_prop (λ a. a.0.controlled i l);
    bases = λ i k h. ∥∥₁_elim t le_prop (λ a. a.0.bases i k h);
    required = λ i k h. ∥∥₁_elim t le_prop (λ a. a.0.required i k h);
    restriction = λ i k h. ∥∥₁_elim t le_prop (λ a. a.0.restriction i k h);
    groups = λ i k h. ∥∥₁_elim t le_prop (λ a. a.0.groups i k h);
  }

  pub rules_of : Rules c
  rules_of = record {
    one_right = λ i l x y o n h k. ∥∥₁_elim t ⊥_prop (λ a. a.1.one_right i l x y o n h k);
    own_operations = λ i l x o h. ∥∥₁_elim t ∥∥₁_prop (λ a. a.1.own_operations i l x o h);
    assignable = λ i l m x o d h. ∥∥₁_elim t ⊥_prop (λ a. a.1.assignable i l m x o d h);
    virtual = λ i l m x o h. ∥∥₁_elim t ⊥_prop (λ a. a.1.virtual i l m x o h);
    types = λ i b l h. ∥∥₁_elim t ∥∥₁_prop (λ a. a.1.types i b l h);
    restrictions = λ i b l h w. (
      ∥∥₁_elim t ∥∥₁_prop (λ a. (a.1.restrictions i b l h w).0),
      λ r m. ∥∥₁_elim t ∥∥₁_prop (λ a. (a.1.restrictions i b l h w).1 r m),
    );
    requirements = λ i b l h. (
      λ k m. ∥∥₁_elim t (ℕ_set _ _) (λ a. (a.1.requirements i b l h).0 k m),
      λ m. ∥∥₁_elim t (ℕ_set _ _) (λ a. (a.1.requirements i b l h).1 m),
    );
    rights = λ i b l h. (
      λ x o m. ∥∥₁_elim t ∥∥₁_prop (λ a. (a.1.rights i b l h).0 x o m),
      λ y o d m. ∥∥₁_elim t ∥∥₁_prop (λ a. (a.1.rights i b l h).1 y o d m),
    );
    no_clash = λ i j l m k. ∥∥₁_elim t ⊥_prop (λ a. a.1.no_clash i j l m k);
  }
