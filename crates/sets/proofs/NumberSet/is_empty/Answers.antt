use Rattle.std.proofs.Common.{subst}
use Rattle.std.proofs.lemmas.Bool.{eqb-true, eq-eqb}
use Rattle.sets.specs.Members.{Bit}
use Rattle.sets.proofs.Membership.{empty, not_in_none}
use Rattle.sets.proofs.NumberSet.is_empty.Goals as goal

pub returns-clause-members : goal.returns-clause-members
returns-clause-members c = (λ h k i. not_in_none k (subst (Bit k) (eqb-true _ _ h) i), λ h. eq-eqb _ _ (empty c.args.self.bits h))
