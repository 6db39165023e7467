-- What a report on a judged book holds.
use Rattle.std.specs.Prelude.{◌≡◌, ℕ, ◌<◌, List, Ok, Err, ◌≢◌, slice_index_or}
use Rattle.records.specs.declared.View.{View}
use Rattle.book.specs.Declarations.{no_view, WithinLimits}
use Rattle.book.specs.Form.{reading}
use Rattle.acceptance.specs.Judgement.{Judged}
use Rattle.listing.specs.declared.judged_report.JudgedReport.{JudgedReport}
use Rattle.listing.specs.declared.judged_report.JudgedReport.TheVariants.{Accepted, Rejected, Refused}

-- the accepted book; the records of the book, and the rule's rejection of it; or the refusal of its form
abbrev pub JudgedReports : JudgedReport → List ℕ → Type 0
JudgedReports (Accepted b) bs = Judged bs (Ok b.records)
JudgedReports (Rejected t e) bs = (reading bs ≡ Ok t) × Judged bs (Err e)
JudgedReports (Refused f) bs = reading bs ≡ Err f

-- the records that it holds are within the limits
abbrev pub HoldsWithinLimits : JudgedReport → Type 0
HoldsWithinLimits (Accepted b) = WithinLimits b.records
HoldsWithinLimits (Rejected t e) = WithinLimits t
HoldsWithinLimits (Refused f) = Unit {0}

-- none of the first n views stands at the place
abbrev pub NoneAt : List View → ℕ → ℕ → Type 0
NoneAt views place n = (i : ℕ) → i < n → (slice_index_or views i no_view).place ≢ place
