-- What the form means: it takes exactly the encodings of records that keep its rules, and reads those records.
use Rattle.std.specs.Prelude.{◌≡◌, ℕ, zero, suc, ◌+◌, cond, List, [], ◌∷◌, length, take, drop, Ok, Err, Result, ◌==◌}
use Rattle.std.specs.Int.Digits.{AllBelowBase}
use Rattle.sets.specs.Members.{Iff}
use Rattle.book.specs.declared.phase.Phase.{Phase}
use Rattle.book.specs.declared.phase.Phase.TheVariants.{Types}
use Rattle.book.specs.Layout.{kind_of}
use Rattle.book.specs.declared.refusal.Fault.{Fault}
use Rattle.book.specs.declared.contents.Records.{Records}
use Rattle.book.specs.Contents.{Record, nothing, filed_all}
use Rattle.book.specs.Encoding.{encode, together}
use Rattle.book.specs.Form.{form, cut, Cut, whole, broken}
use Rattle.book.specs.FormRules.{Formed}

-- a list of bytes passes exactly when it is the encoding of records that keep the rules; these are then the ones read
abbrev pub PassesAsEncoded : Type 0
PassesAsEncoded = (bs : List ℕ) → AllBelowBase 256 bs → (rs : List Record) → Iff (form bs ≡ Ok rs) ((bs ≡ encode rs) × Formed rs)

-- what was read of a book is the records of which it is the encoding, and a book that is refused is no encoding
abbrev pub Exactly : List ℕ → Result Records Fault → Type 0
Exactly bs (Ok c) = (rs : List Record) × (bs ≡ encode rs) × Formed rs × (filed_all nothing rs ≡ c)
Exactly bs (Err f) = (rs : List Record) → bs ≡ encode rs → Formed rs → ⊥

-- how many of kind q were read, where n of kind p were, and p was the last kind
abbrev pub numbered : Phase → ℕ → Phase → ℕ
numbered p n q = cond (kind_of p == kind_of q) n 0

-- the part at the front of the bytes, and those that are handed out after it
abbrev pub parts_as : (Phase → ℕ → List ℕ → List (List ℕ)) → Phase → ℕ → List ℕ → Cut → List (List ℕ)
parts_as rest p n bs (broken r) = []
parts_as rest p n bs (whole q size) = take size bs ∷ rest q (numbered p n q + 1) (drop size bs)

-- the parts that a reader hands out, one after the other, after n records of kind p
abbrev pub parts_in : ℕ → Phase → ℕ → List ℕ → List (List ℕ)
parts_in zero p n bs = []
parts_in (suc k) p n [] = []
parts_in (suc k) p n (b ∷ bs) = parts_as (parts_in k) p n (b ∷ bs) (cut p (numbered p n) (b ∷ bs))

-- the parts of a book
abbrev pub parts_of : List ℕ → List (List ℕ)
parts_of bs = parts_in (length bs) Types 0 (drop 1 bs)

-- the parts of an accepted book, joined, are the book less its first byte
abbrev pub PartsAreTheBook : Type 0
PartsAreTheBook = (bs : List ℕ) (rs : List Record) → form bs ≡ Ok rs → together (parts_of bs) ≡ drop 1 bs
