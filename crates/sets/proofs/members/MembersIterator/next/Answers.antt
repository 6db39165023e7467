use Rattle.std.proofs.Common.{◌≡◌, ◌∷◌, length, ap, arith, rules}
use Rattle.sets.specs.Members.{members}
use Rattle.sets.proofs.Rising.{members_none, members_first}
use Rattle.sets.proofs.members.MembersIterator.next.Goals as goal

pub returns-in_err-first-clause-steps : goal.returns-in_err-first-clause-steps
returns-in_err-first-clause-steps c =
    let none = members_none c.args.self.now.left (c.in_err-first.ensures) in
    rw c.from_residual.ensures (none, none)

pub returns-clause-steps : goal.returns-clause-steps
returns-clause-steps c =
    let h = c.in_ok-first.ensures in
    members_first c.args.self.now.left c.without-self.result c.in_ok-first.first h.0 h.1 h.2 c.without-self.ensures

pub returns-clause-goes : goal.returns-clause-goes
returns-clause-goes c =
    let h = c.in_ok-first.ensures in
    let e : members c.args.self.now.left ≡ c.in_ok-first.first ∷ members c.without-self.result =
    members_first c.args.self.now.left c.without-self.result c.in_ok-first.first h.0 h.1 h.2 c.without-self.ensures in
    let n : length (members c.args.self.now.left) ≡ length (c.in_ok-first.first ∷ members c.without-self.result) = ap length e in
    search (rules, arith)
