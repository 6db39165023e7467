use Rattle.std.proofs.Common.{ℕ, ap, rules, tests, arith}
use Rattle.std.proofs.lemmas.Iterator.{cases_from_all}
use Rattle.std.proofs.lemmas.Iterator.Consumers.{YieldsList-from_first}
use Rattle.sets.specs.Members.{In, members}
use Rattle.views.specs.Some.{Exists}
use Rattle.views.proofs.Ranging.{all_members}
use Rattle.views.proofs.restrictions.are_below.Goals as goal

pub returns : goal.returns
returns g c =
    let P : ℕ → Type 0 = λ k. Exists (λ s. In s c.args.other × g.H.Hierarchy.pairs c.args.order.now k s) in
    all_members c.args.set (omega arith) P _
    (cases_from_all _ _ _ P (λ k. P k → ⊥) c.all.ensures.ran (YieldsList-from_first (λ x. x) (λ m. members m.left) (members c.args.set) (ap members c.iter.ensures)) (λ x q k. search (rules, tests)) (λ x q k. search (rules, tests)))
