use Rattle.std.proofs.Common.{ℕ, ◌<◌, false, Some, None, Option, MatchOption, Decides, refl}
use mathlib.Core.Logic.{∥∥₁_elim}
use mathlib.Core.HLevel.{⊥_prop}
use Rattle.std.specs.Option.{is_some}
use Rattle.std.proofs.lemmas.Bool.{both_ways}
use Rattle.std.proofs.lemmas.Bool.Decides.{Decides-at}
use Rattle.sets.specs.declared.NumberSet.{NumberSet}
use Rattle.sets.specs.Members.{In}
use Rattle.views.specs.Some.{Exists}
use Rattle.views.proofs.rights.has_member.Goals as goal

has_lowest : (o : Option ℕ) (s : NumberSet) → MatchOption o ((k : ℕ) → In k s → ⊥) (λ i. (i < 64) × In i s × ((k : ℕ) → k < i → In k s → ⊥)) → Decides (is_some o) (Exists (λ k. In k s))
has_lowest (Some i) s m = (λ _. ∣ (i, m.1) ∣₁, λ _. refl)
has_lowest None s m = (λ e. absurd (both_ways false refl e), λ e. absurd (∥∥₁_elim e ⊥_prop (λ p. m p.0 p.1)))

pub returns : goal.returns
returns c = Decides-at _ _ c.is_some.ensures (has_lowest _ _ c.lowest.ensures)
