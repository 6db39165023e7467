-- What a chain of tests says, at each of the two ways through its code.
use Rattle.std.proofs.Common.{◌≡◌, Bool, true, false, Decides, sym, ◌∙◌}
use Rattle.std.proofs.lemmas.Bool.{both_ways}
use Rattle.std.proofs.lemmas.Bool.Decides.{not_from_Decides, Decides-at}

-- a && b, where a is true and b decides
pub and_second : {P Q : Type 0} (a b r : Bool) → Decides a P → a ≡ true → Decides b Q → r ≡ b → Decides r (P × Q)
and_second a b r p e q f = Decides-at r b f (λ h. (p.0 e, q.0 h), λ s. q.1 s.1)

-- a && b, where a is false
pub and_first : {P Q : Type 0} (a r : Bool) → Decides a P → a ≡ false → r ≡ a → Decides r (P × Q)
and_first a r p e f = (λ h. absurd (both_ways a e (sym f ∙ h)), λ s. absurd (not_from_Decides a p e s.0))
