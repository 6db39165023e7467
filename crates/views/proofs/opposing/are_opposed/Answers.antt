use Rattle.std.proofs.Common.{inl, inr, ⊎_elim}
use mathlib.Core.Logic.{∥∥₁_map}
use Rattle.std.proofs.lemmas.Bool.Decides.{not_from_Decides}
use Rattle.views.proofs.opposing.are_opposed.Goals as goal

pub returns-then-has_member : goal.returns-then-has_member
returns-then-has_member c = (
  λ e. ∥∥₁_map (c.has_member.ensures.0 e) (λ s. (s.0, inl ((c.intersection.ensures s.0).0 s.1))),
  λ e. c.if-has_member.true,
)

pub returns-else-has_member : goal.returns-else-has_member
returns-else-has_member c =
    let second = c.has_member-else-has_member.ensures in
    let both = c.intersection-else-has_member.ensures in
    let none = not_from_Decides c.has_member.result c.has_member.ensures c.if-has_member.false in (
      λ e. ∥∥₁_map (second.0 e) (λ s. (s.0, inr ((both s.0).0 s.1))),
      λ e. second.1 (∥∥₁_map e (λ s. (s.0, ⊎_elim (λ p. absurd (none ∣ (s.0, (c.intersection.ensures s.0).1 p) ∣₁)) (both s.0).1 s.1))),
    )
