-- How a book is judged.
use Rattle.std.specs.Prelude.{◌≡◌, ℕ, ◌⊎◌, List, Some, None, Ok, Err, Result}
use Rattle.sets.specs.Members.{Iff}
use Rattle.book.specs.declared.refusal.Fault.{Fault}
use Rattle.book.specs.declared.contents.Records.{Records}
use Rattle.book.specs.Form.{reading}
use Rattle.acceptance.specs.declared.rejection.Rejection.{Rejection}
use Rattle.acceptance.specs.Rejections.{form_fault}
use Rattle.acceptance.specs.Rules.{Rules}
use Rattle.acceptance.specs.Checks.{First, checks}

-- the judgement of a book: its contents where form and rules pass, and else the first rejection
abbrev pub Judged : List ℕ → Result Records Rejection → Type 0
Judged bs (Ok c) = (reading bs ≡ Ok c) × First (checks c) None
Judged bs (Err e) =
    ((f : Fault) × (reading bs ≡ Err f) × (e ≡ form_fault f))
    ⊎ ((c : Records) × (reading bs ≡ Ok c) × First (checks c) (Some e))

-- a book has one judgement, whoever makes it
abbrev pub OneJudgement : Type 0
OneJudgement = (bs : List ℕ) (r s : Result Records Rejection) → Judged bs r → Judged bs s → r ≡ s

-- a book is accepted exactly when its form is right and its records keep every rule
abbrev pub AcceptedByRules : Type 0
AcceptedByRules = (bs : List ℕ) (c : Records) → Iff (Judged bs (Ok c)) ((reading bs ≡ Ok c) × Rules c)
