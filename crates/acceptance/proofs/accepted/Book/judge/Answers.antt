use Rattle.std.proofs.Common.{inr}
use Rattle.std.proofs.lemmas.Result.{err_from_is_err_and}
use Rattle.acceptance.specs.Checks.{Checked, checks}
use Rattle.acceptance.proofs.Firsts.{checked_none}
use Rattle.acceptance.proofs.Deciding.{passes_rules}
use Rattle.acceptance.proofs.Extending.{kept}
use Rattle.acceptance.proofs.accepted.Book.judge.Goals as goal

pub returns-in_err-check-clause-judged : goal.returns-in_err-check-clause-judged
unfolding Checked
returns-in_err-check-clause-judged g c =
    let p = err_from_is_err_and c.from_residual-in_err-check.result c.from_residual-in_err-check.ensures.1 in
    rw (p.1, p.2) (inr (c.in_ok-records.records, c.in_ok-records.ensures.records, c.in_err-check.ensures))

pub invariant_of-result : goal.invariant_of-result
invariant_of-result g c =
    let all = c.in_ok-records.records in
    let declared = c.in_ok-records.ensures.declared in
    record {
      accepted = ∣ (declared, passes_rules all declared (checked_none _ _ c.in_ok-check.was (checks all) c.check.ensures)) ∣₁;
      within = c.in_ok-records.ensures.within;
    }

pub returns-clause-judged : goal.returns-clause-judged
unfolding Checked
returns-clause-judged g c = (c.in_ok-records.ensures.records, c.in_ok-check.ensures)

pub returns-clause-kept : goal.returns-clause-kept
returns-clause-kept g c =
    let all = c.in_ok-records.records in
    let declared = c.in_ok-records.ensures.declared in
    kept all declared (passes_rules all declared (checked_none _ _ c.in_ok-check.was (checks all) c.check.ensures))
