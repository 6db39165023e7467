use Rattle.std.proofs.Common.{inl, inr, ⊎_elim}
use Rattle.sets.proofs.Membership.{in_with}
use Rattle.sets.proofs.NumberSet.insert.Goals as goal

pub returns-then-number-lt64 : goal.returns-then-number-lt64
returns-then-number-lt64 c k =
    let l = c.if-number-lt64.true in
    let w = in_with k c.args.self.now.bits c.args.number l in
    (λ h. ⊎_elim inl (λ e. inr (e, l)) (w.0 h), λ h. w.1 (⊎_elim inl (λ p. inr p.0) h))
