use Rattle.std.proofs.Common.{sym, ◌∙◌, subst}
use Rattle.std.proofs.lemmas.Bool.{eqb-true, eq-eqb}
use Rattle.sets.specs.Members.{Bit}
use Rattle.sets.proofs.Membership.{ext}
use Rattle.sets.proofs.NumberSet.same.Goals as goal

pub returns : goal.returns
returns c = (
  λ h k. let e = eqb-true _ _ (sym c.eq.ensures ∙ h) in (subst (Bit k) e, subst (Bit k) (sym e)),
  λ h. c.eq.ensures ∙ eq-eqb _ _ (ext c.args.self.bits c.args.other.bits h),
)
