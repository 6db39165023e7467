-- Worked cases: books, and what must come out of each.
use Rattle.std.specs.Prelude.{◌≡◌, ℕ, List, [], ◌∷◌, ◌++◌, Some, Ok, Err, Option, Result}
use Rattle.sets.specs.Bytes.{bytes_in}
use Rattle.book.specs.declared.contents.Records.{Records}
use Rattle.book.specs.Encoding.{together}
use Rattle.acceptance.specs.declared.rejection.Rejection.{Rejection}
use Rattle.acceptance.specs.Rejections.{reason_number}
use Rattle.acceptance.specs.Judgement.{Judged}

-- what comes out of a book
pub data Outcome : Type 0 where
  -- the form is right, and the records keep every rule
  accepted : Outcome
  -- the number of the reason, the place of the record, and for two views the number of the other
  rejected : ℕ → ℕ → Option ℕ → Outcome

-- what a judgement says to users
abbrev pub outcome_of : Result Records Rejection → Outcome
outcome_of (Ok c) = accepted
outcome_of (Err e) = rejected (reason_number e.reason) e.place e.other

-- what is asked of an accepted book; no call can be made of a book yet
pub data Call : Type 0 where

-- a case: the bytes of a book, the calls made of it, and what must come out
pub record Row : Type 0 where
  pub book : List ℕ
  pub calls : List Call
  pub outcome : Outcome

-- the judgement of the row's book has the row's outcome; a book has exactly one judgement
abbrev pub ComesOut : Row → Type 0
ComesOut row = (r : Result Records Rejection) × Judged row.book r × (outcome_of r ≡ row.outcome)

-- every row of a list comes out as it must
abbrev pub EachComesOut : List Row → Type 0
EachComesOut [] = Unit {0}
EachComesOut (row ∷ rs) = ComesOut row × EachComesOut rs

-- ---- the books

-- the eight bytes of a set, which is given as the number whose bits are its members
abbrev pub numbers : ℕ → List ℕ
numbers k = bytes_in 8 k

-- the bytes of a book: its first byte, and then its records
abbrev pub book_of : List (List ℕ) → List ℕ
book_of rs = 0x01 ∷ together rs

-- two types, two roles, a group, three views and two subjects; view 1, the base of view 2, has the denials given
abbrev pub worked_book : List ℕ → List ℕ
worked_book denials =
    book_of
    ((0x01 ∷ 0x02 ∷ numbers 7)
    ∷ (0x01 ∷ 0x03 ∷ numbers 1 ++ numbers 8)
    ∷ (0x02 ∷ 0x00 ∷ [])
    ∷ (0x02 ∷ 0x01 ∷ numbers 1)
    ∷ (0x03 ∷ 0x02 ∷ numbers 3)
    ∷ (0x04 ∷ 0x21 ∷ 0x00 ∷ numbers 1)
    ∷ (0x04 ∷ 0x81 ∷ 0x00 ∷ denials)
    ∷ (0x04 ∷ 0x33 ∷ 0x00 ∷ numbers 2 ++ 0x01 ∷ numbers 6)
    ∷ (0x05 ∷ 0x01 ∷ numbers 1)
    ∷ (0x05 ∷ 0x01 ∷ numbers 1)
    ∷ [])

-- a type with operation 0, a view with the map and the right given, and a view that extends it and has the denials given
abbrev pub extended : ℕ → List ℕ → List ℕ → List ℕ
extended map right denials =
    book_of
    ((0x01 ∷ 0x02 ∷ numbers 1)
    ∷ (0x04 ∷ map ∷ 0x00 ∷ right)
    ∷ (0x04 ∷ 0x83 ∷ 0x00 ∷ numbers 1 ++ denials)
    ∷ [])

-- two types with operation 0, the further types given, and a view of each of the two: one strongly permits operation 0, and the other strongly denies it
abbrev pub opposed : List (List ℕ) → List ℕ
opposed types =
    book_of
    ((0x01 ∷ 0x02 ∷ numbers 1)
    ∷ (0x01 ∷ 0x02 ∷ numbers 1)
    ∷ types
    ++ (0x04 ∷ 0x41 ∷ 0x00 ∷ numbers 1)
    ∷ (0x04 ∷ 0x81 ∷ 0x01 ∷ numbers 0 ++ numbers 1)
    ∷ [])

-- ---- the cases

-- the cases, each with what must come out
abbrev pub rows : List Row
rows =
    -- a view permits what its base denies weakly
    (record { book = worked_book (numbers 6 ++ numbers 0); calls = []; outcome = accepted })
    -- a view permits what its base denies strongly
    ∷ (record { book = worked_book (numbers 0 ++ numbers 6); calls = []; outcome = rejected 18 81 (Some 1) })
    -- a view denies what its base permits weakly
    ∷ (record { book = extended 0x21 (numbers 1) (numbers 1 ++ numbers 0); calls = []; outcome = rejected 18 22 (Some 0) })
    -- a view denies strongly what its base denies weakly
    ∷ (record { book = extended 0x81 (numbers 1 ++ numbers 0) (numbers 0 ++ numbers 1); calls = []; outcome = accepted })
    -- opposed views of two types, with no type below both
    ∷ (record { book = opposed []; calls = []; outcome = accepted })
    -- the same with a type below both
    ∷ (record { book = opposed ((0x01 ∷ 0x01 ∷ numbers 3) ∷ []); calls = []; outcome = rejected 19 31 (Some 1) })
    ∷ []

-- every case comes out as it must
unfoldable pub AllComeOut : Type 0
AllComeOut = EachComesOut rows
