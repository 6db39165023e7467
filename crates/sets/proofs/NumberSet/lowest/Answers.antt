use Rattle.std.proofs.Common.{◌≡◌, false, eqb, sym, ◌∙◌, w64, arith}
use Rattle.std.proofs.lemmas.Bool.{eqb-false}
use Rattle.std.proofs.lemmas.Nat.Bits.{bit_at-trailing_zeros}
use Rattle.sets.proofs.NumberSet.lowest.Goals as goal

pub returns : goal.returns
returns c =
    let s = c.args.self.bits in
    let e : eqb s 0 ≡ false = sym c.is_empty.ensures.value ∙ c.if-is_empty.false in
    let z = eqb-false s 0 e in
    let r = bit_at-trailing_zeros w64 s (omega arith) (omega arith) in
    (r.0, r.1, λ k l h. absurd (let n = r.2 k l in omega arith))
