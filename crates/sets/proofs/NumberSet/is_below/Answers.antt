use Rattle.std.proofs.Common.{◌^◌, ◌<◌, sym, ◌∙◌, arith, pow_mono}
use Rattle.std.proofs.lemmas.Bool.{lt-ltb, eqb-true, eq-eqb, le-leb}
use Rattle.std.proofs.lemmas.Bool.Decides.{same_from_decides, Decides-eqb, Decides-ltb, Decides-like}
use Rattle.sets.proofs.Membership.{below, shifted_out}
use Rattle.sets.proofs.NumberSet.is_below.Goals as goal

pub returns-then-limit-ge64 : goal.returns-then-limit-ge64
returns-then-limit-ge64 c =
    let past = c.if-limit-ge64.true in
    let s = c.args.self.bits in
    let l : s < 2 ^ 64 = omega arith in
    let p = pow_mono past in
    let b : s < 2 ^ c.args.limit = omega arith in
    let e = le-leb 64 c.args.limit past in
    record { value = e ∙ sym (lt-ltb s (2 ^ c.args.limit) b); members = (λ h. (below c.args.limit s).0 b, λ h. e) }

pub returns-else-limit-ge64 : goal.returns-else-limit-ge64
returns-else-limit-ge64 c =
    let s = c.args.self.bits in
    let n = c.args.limit in
    let w = below n s in
    let q = shifted_out n s in
    record {
      value = same_from_decides _ _ (Decides-like _ q.0 q.1 (Decides-eqb _ 0)) (Decides-ltb s (2 ^ n));
      members = (λ h. w.0 (q.0 (eqb-true _ _ h)), λ h. eq-eqb _ _ (q.1 (w.1 h)));
    }
