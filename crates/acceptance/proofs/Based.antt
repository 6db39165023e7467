-- The checks against a base that the view names.
use Rattle.std.proofs.Common.{◌≡◌, ℕ, List, [], ◌∷◌, Some, Ok, Err, Result, subst, inl, inr}
use Rattle.sets.specs.Members.{In}
use Rattle.records.specs.declared.View.{View}
use Rattle.book.specs.declared.contents.Records.{Records}
use Rattle.book.specs.Declarations.{view_at}
use Rattle.views.specs.ViewRules.{RequirementsFollow, RightsFollow}
use Rattle.acceptance.specs.declared.rejection.Rule.TheVariants.{ControlledType, RoleRestriction, Requirement, Redefinition}
use Rattle.acceptance.specs.declared.rejection.Rejection.{Rejection}
use Rattle.acceptance.specs.Rejections.{breach}
use Rattle.acceptance.specs.Rules.{TypeFollows, RestrictionFollows}
use Rattle.acceptance.specs.Checks.{Check, ◌unless◌, Checked, of_base}

-- of a view against a base, the view of number b
abbrev pub on_base : Records → View → View → ℕ → List Check
on_base c v w b =
    (breach ControlledType v (Some b) unless TypeFollows c v w)
    ∷ (breach RoleRestriction v (Some b) unless RestrictionFollows c v w)
    ∷ (breach Requirement v (Some b) unless RequirementsFollow v w)
    ∷ (breach Redefinition v (Some b) unless RightsFollow v w)
    ∷ []

given : {I : Type 0} (P : Type 0) (e : Rejection) (cs ds : List Check) (r : Result (Unit {0}) Rejection) → I → (Checked cs r → Checked ds r) → Checked ((e unless P) ∷ cs) r → Checked ((e unless (I → P)) ∷ ds) r
unfolding Checked
given P e cs ds (Ok u) i f (inl q) = inl (λ p. q.0 (p i), q.1)
given P e cs ds (Ok u) i f (inr q) = inr (λ _. q.0, f q.1)
given P e cs ds (Err d) i f (inl q) = inl (λ p. q.0 (p i), q.1)
given P e cs ds (Err d) i f (inr q) = inr (λ _. q.0, f q.1)

-- the same of a base that the view names
pub on_named : (c : Records) (v w : View) (b : ℕ) (r : Result (Unit {0}) Rejection) → In b v.bases → w ≡ view_at c b → Checked (on_base c v w b) r → Checked (of_base c v b) r
on_named c v w b r i e f = given _ _ _ _ r i (given _ _ _ _ r i (given _ _ _ _ r i (given _ _ _ _ r i (λ g. g)))) (subst (λ (w : View). Checked (on_base c v w b) r) e f)
