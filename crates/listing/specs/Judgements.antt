-- What a judgement of a book says.
use Rattle.std.specs.Prelude.{ℕ, List, Ok, Err, MatchResult}
use Rattle.book.specs.declared.contents.Records.{Records}
use Rattle.acceptance.specs.Judgement.{Judged}
use Rattle.listing.specs.declared.judgement.Judgement.{Judgement}

-- the book is accepted with some records, or rejected as said
abbrev pub Judges : Judgement → List ℕ → Type 0
Judges j bs = MatchResult j.outcome (λ _. (c : Records) × Judged bs (Ok c)) (λ e. Judged bs (Err e))
