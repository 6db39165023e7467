use Rattle.std.proofs.Common.{ℕ, ap, rules, tests, arith}
use Rattle.std.proofs.lemmas.Iterator.{cases_from_any}
use Rattle.std.proofs.lemmas.Iterator.Consumers.{YieldsList-from_first}
use Rattle.sets.specs.Members.{members}
use Rattle.views.proofs.Ranging.{any_member}
use Rattle.views.proofs.restrictions.is_below_some.Goals as goal

pub returns : goal.returns
returns g c =
    let P : ℕ → Type 0 = λ s. g.H.Hierarchy.pairs c.args.order.now c.args.number s in
    any_member c.args.set (omega arith) P _
    (cases_from_any _ _ _ P (λ s. P s → ⊥) c.any.ensures.ran (YieldsList-from_first (λ x. x) (λ m. members m.left) (members c.args.set) (ap members c.iter.ensures)) (λ x q k. search (rules, tests)) (λ x q k. search (rules, tests)))
