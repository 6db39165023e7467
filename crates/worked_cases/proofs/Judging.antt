-- The judgement of a book, computed.
use Rattle.std.proofs.Common.{◌≡◌, ℕ, Bool, true, List, Some, None, Ok, Err, Option, Result, refl, inl, inr}
use Rattle.book.specs.declared.refusal.Fault.{Fault}
use Rattle.book.specs.declared.contents.Records.{Records}
use Rattle.book.specs.Form.{reading}
use Rattle.book.proofs.Declaring.{declares}
use Rattle.acceptance.specs.declared.rejection.Rejection.{Rejection}
use Rattle.acceptance.specs.Rejections.{form_fault}
use Rattle.acceptance.specs.Checks.{First, checks}
use Rattle.acceptance.specs.Judgement.{Judged}
use Rattle.worked_cases.proofs.Trials.{first_failing, matched_first}
use Rattle.worked_cases.proofs.RuleTests.{sized, sized_so, trials, all_matched}

-- what contents are judged by the first test that fails
abbrev pub judged_by : Records → Option Rejection → Result Records Rejection
judged_by c None = Ok c
judged_by c (Some e) = Err e

-- the judgement of what was read
abbrev pub judgement_of : Result Records Fault → Result Records Rejection
judgement_of (Ok c) = judged_by c (first_failing (trials c))
judgement_of (Err f) = Err (form_fault f)

-- the tests can be relied on for what was read
abbrev pub read_sized : Result Records Fault → Bool
read_sized (Ok c) = sized c
read_sized (Err f) = true

judged_by_lem : (bs : List ℕ) (c : Records) (o : Option Rejection) → reading bs ≡ Ok c → First (checks c) o → Judged bs (judged_by c o)
judged_by_lem bs c None e f = (e, f)
judged_by_lem bs c (Some r) e f = inr (c, e, f)

-- the computed judgement is the judgement
pub judged_of : (bs : List ℕ) (r : Result Records Fault) → reading bs ≡ r → read_sized r ≡ true → Judged bs (judgement_of r)
judged_of bs (Ok c) e h = judged_by_lem bs c (first_failing (trials c)) e (matched_first (all_matched c (declares bs c e) (sized_so c (declares bs c e) h)))
judged_of bs (Err f) e h = inl (f, e, refl)
