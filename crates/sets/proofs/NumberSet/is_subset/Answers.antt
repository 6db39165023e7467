use Rattle.std.proofs.lemmas.Bool.{eqb-true, eq-eqb}
use Rattle.sets.proofs.Membership.{subset}
use Rattle.sets.proofs.NumberSet.is_subset.Goals as goal

pub returns : goal.returns
returns c = let s = subset c.args.self.bits c.args.other.bits in (λ h. s.0 (eqb-true _ _ h), λ h. eq-eqb _ _ (s.1 h))
