use Rattle.std.proofs.Common.{◌≡◌, None}
use Rattle.acceptance.proofs.Clashing.{Before, Unshared}
use Rattle.acceptance.proofs.orders.Orders.first_clash.Given as goal

abbrev pub invariant-loop-kind : goal.invariant-loop-kind
invariant-loop-kind g l = (l.found ≡ None) × Before l.self.records.now l.first l.second × Unshared l.self.records.now l.first l.second l.kind

abbrev pub invariant-loop-second : goal.invariant-loop-second
invariant-loop-second g l = (l.found ≡ None) × Before l.self.records.now l.first l.second

abbrev pub invariant-pairs : goal.invariant-pairs
invariant-pairs g l = (l.found ≡ None) × Before l.self.records.now l.first 0
