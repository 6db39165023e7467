-- The order of checks: the first that applies decides.
use Rattle.std.specs.Prelude.{◌≡◌, ℕ, zero, suc, ◌<◌, ◌⊎◌, List, [], ◌∷◌, ◌++◌, length, Some, None, Option, Ok, Err, Result}
use Rattle.sets.specs.Members.{In}
use Rattle.records.specs.declared.View.{View}
use Rattle.book.specs.declared.contents.Records.{Records}
use Rattle.book.specs.Declarations.{view_at}
use Rattle.acceptance.specs.declared.rejection.Rule.TheVariants.{TwoRights, ForeignOperation, AssignableDenial, VirtualRight, ControlledType, RoleRestriction, Requirement, Redefinition, Clashing}
use Rattle.acceptance.specs.declared.rejection.Rejection.{Rejection}
use Rattle.acceptance.specs.Rejections.{breach}
use Rattle.views.specs.ViewRules.{OneRight, AssignableDeniesNothing, VirtualHasNone, RequirementsFollow, RightsFollow}
use Rattle.acceptance.specs.Rules.{OwnOperations, TypeFollows, RestrictionFollows, Clash}

-- a rejection, unless something holds
pub data Check : Type 1 where
  ◌unless◌ : Rejection → Type 0 → Check

infix 5 ◌unless◌
-- the answer is the rejection of the first check that applies, none where no check does
abbrev pub First : List Check → Option Rejection → Type 0
First [] r = r ≡ None
First ((e unless P) ∷ cs) r = ((P → ⊥) × (r ≡ Some e)) ⊎ (P × First cs r)

-- the answer of the first check that applies, as a result: it is Ok where none does
unfoldable pub Checked : List Check → Result (Unit {0}) Rejection → Type 0
Checked cs (Ok u) = First cs None
Checked cs (Err e) = First cs (Some e)

-- the checks of each number below n, in rising order
abbrev pub up_to : ℕ → (ℕ → List Check) → List Check
up_to zero f = []
up_to (suc n) f = up_to n f ++ f n

-- of a view by itself
abbrev pub of_view : Records → View → List Check
of_view c v =
    (breach TwoRights v None unless OneRight v)
    ∷ (breach ForeignOperation v None unless OwnOperations c v)
    ∷ (breach AssignableDenial v None unless AssignableDeniesNothing v)
    ∷ (breach VirtualRight v None unless VirtualHasNone v)
    ∷ []

-- of a view against the view of number b, where it names that one as a base
abbrev pub of_base : Records → View → ℕ → List Check
of_base c v b =
    (breach ControlledType v (Some b) unless (In b v.bases → TypeFollows c v (view_at c b)))
    ∷ (breach RoleRestriction v (Some b) unless (In b v.bases → RestrictionFollows c v (view_at c b)))
    ∷ (breach Requirement v (Some b) unless (In b v.bases → RequirementsFollow v (view_at c b)))
    ∷ (breach Redefinition v (Some b) unless (In b v.bases → RightsFollow v (view_at c b)))
    ∷ []

-- of two views, the lower number first
abbrev pub of_pair : Records → ℕ → ℕ → List Check
of_pair c i j = (breach Clashing (view_at c i) (Some j) unless (i < j → Clash c i j → ⊥)) ∷ []

-- of a view: by itself, and then against its bases
abbrev pub of_view_and_bases : Records → ℕ → List Check
of_view_and_bases c i = of_view c (view_at c i) ++ up_to (length c.views) (of_base c (view_at c i))

-- all checks of the records: view by view, and then pair by pair
abbrev pub checks : Records → List Check
checks c =
    up_to (length c.views) (of_view_and_bases c)
    ++ up_to (length c.views) (λ i. up_to (length c.views) (of_pair c i))

-- the first pair of views that clash: the lowest first view, and with it the lowest second
abbrev pub FirstClash : Records → Option (ℕ × ℕ) → Type 0
FirstClash c None = (i j : ℕ) → i < j → j < length c.views → Clash c i j → ⊥
FirstClash c (Some p) =
    (p.0 < p.1)
    × (p.1 < length c.views)
    × Clash c p.0 p.1
    × ((i j : ℕ) → i < j → j < length c.views → (i < p.0) ⊎ ((i ≡ p.0) × (j < p.1)) → Clash c i j → ⊥)
