use Rattle.acceptance.proofs.Truncated.{declared_of, rules_of}
use Rattle.acceptance.proofs.Extending.{kept}
use Rattle.acceptance.proofs.accepted.Book.records.Goals as goal

pub returns-clause-rules : goal.returns-clause-rules
returns-clause-rules c = rules_of c.args.self.now.records c.args.self.now.accepted

pub returns-clause-kept : goal.returns-clause-kept
returns-clause-kept c =
    let all = c.args.self.now.records in
    let t = c.args.self.now.accepted in
    kept all (declared_of all t) (rules_of all t)
