-- What `any` and `all` say over the members of a set.
use Rattle.std.proofs.Common.{ℕ, ◌<◌, ◌^◌, Bool, true, false, Decides, MatchBool, length, get_or, sym, refl, subst, zero-le}
use mathlib.Core.Logic.{∥∥₁_elim}
use mathlib.Core.HLevel.{⊥_prop}
use Rattle.std.specs.List.{AllWithin, HoldsAt}
use Rattle.std.proofs.lemmas.Bool.{both_ways}
use Rattle.std.proofs.lemmas.List.Elements.{Contains-get_or}
use Rattle.sets.specs.declared.NumberSet.{NumberSet}
use Rattle.sets.specs.Members.{In, members}
use Rattle.sets.proofs.Rising.{member_of, members_has}
use Rattle.views.specs.Some.{Exists}

module _ (s : NumberSet) (w : s.bits < 2 ^ 64) (P : ℕ → Type 0) where
  -- the element at a place is a member
  at_place : (k : ℕ) → k < length (members s) → In (get_or (members s) k 0) s
  at_place k l = member_of s _ (Contains-get_or (members s) k 0 l)

  -- some member has it
  pub any_member : (r : Bool) → MatchBool r ((k : ℕ) × (k < length (members s)) × HoldsAt P (members s) k) (AllWithin (λ k. P k → ⊥) (members s) 0 (length (members s))) → Decides r (Exists (λ k. In k s × P k))
  any_member true m = (λ _. ∣ (_, (at_place m.0 m.1, m.2 0)) ∣₁, λ _. refl)
  any_member false m = (
    λ e. absurd (both_ways false refl e),
    λ e. absurd (∥∥₁_elim e ⊥_prop (λ p. let c = members_has s p.0 w p.1.0 in m c.0 p.0 zero-le c.1 (subst P (sym c.2) p.1.1))),
  )

  -- each member has it
  pub all_members : (r : Bool) → MatchBool r (AllWithin P (members s) 0 (length (members s))) ((k : ℕ) × (k < length (members s)) × HoldsAt (λ k. P k → ⊥) (members s) k) → Decides r ((k : ℕ) → In k s → P k)
  all_members true m = (λ _ k h. let c = members_has s k w h in subst P c.2 (m c.0 k zero-le c.1), λ _. refl)
  all_members false m = (λ e. absurd (both_ways false refl e), λ a. absurd (m.2 0 (a _ (at_place m.0 m.1))))
