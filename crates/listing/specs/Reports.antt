-- What a report on a book holds.
use Rattle.std.specs.Prelude.{◌≡◌, ℕ, List}
use Rattle.book.specs.Form.{reading}
use Rattle.listing.specs.declared.report.Report.{Report}

-- the records of the book, or its refusal
abbrev pub Reports : Report → List ℕ → Type 0
Reports r bs = reading bs ≡ r.outcome
