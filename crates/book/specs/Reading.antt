-- What the steps of a reading answer.
use Rattle.std.specs.Prelude.{◌≡◌, ℕ, ◌+◌, ◌/◌, ◌<◌, ◌≤◌, List, length, take, drop, Some, None, Ok, Err, Option, Result}
use Rattle.book.specs.declared.phase.Phase.{Phase}
use Rattle.book.specs.declared.refusal.Refusal.{Refusal}
use Rattle.book.specs.declared.refusal.Fault.{Fault}
use Rattle.book.specs.declared.part.Part.{Part}
use Rattle.book.specs.declared.position.Position.{Position}
use Rattle.book.specs.Form.{behind, cut, whole, broken}
use Rattle.book.specs.FormLaws.{numbered}

-- the answer is x where nothing is wrong, and else what is wrong
abbrev pub Told : {X : Type 0} → Result X Refusal → Option Refusal → X → Type 0
Told (Ok y) o x = (o ≡ None) × (y ≡ x)
Told (Err e) o x = o ≡ Some e

-- a field of w bytes was taken: what is left of the map and of the bytes
abbrev pub Moved : ℕ → ℕ → List ℕ → ℕ → List ℕ → Type 0
Moved w m bs m' bs' = (m' ≡ m / 2) × (bs' ≡ behind w m bs)

-- the part that stands in the book at a place, after n records of kind p: a whole record of kind q, exactly its bytes
pub record Handed (book : List ℕ) (at : ℕ) (p : Phase) (n : ℕ) (q : Phase) (place : ℕ) (part : List ℕ) : Type 0 where
  pub record_is : cut p (numbered p n) (drop at book) ≡ whole q (length part)
  pub place_is : place ≡ at
  pub bytes_are : part ≡ take (length part) (drop at book)
  pub some : 0 < length part
  pub inside : at + length part ≤ length book

-- a position behind a part of kind q
abbrev pub passed : Position → Phase → List ℕ → Position
passed s q part = record { at = s.at + length part; phase = q; number = numbered s.phase s.number q + 1 }

-- what a reader of the book answers at a position, and where it then stands
abbrev pub Hands : List ℕ → Position → Result (Option Part) Fault → Position → Type 0
Hands book s (Ok None) s' = (s.at ≡ length book) × (s' ≡ s)
Hands book s (Ok (Some p)) s' = Handed book s.at s.phase s.number p.phase p.place p.bytes.now × (s' ≡ passed s p.phase p.bytes.now)
Hands book s (Err f) s' =
    (s.at < length book)
    × (cut s.phase (numbered s.phase s.number) (drop s.at book) ≡ broken f.refusal)
    × (f.place ≡ s.at)
    × (s' ≡ s)
