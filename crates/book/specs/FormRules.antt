-- The rules of the form, as rules on records.
use Rattle.std.specs.Prelude.{◌≡◌, ℕ, ◌^◌, ◌<◌, ◌≤◌, List, [], ◌∷◌, length}
use Rattle.sets.specs.declared.NumberSet.{NumberSet}
use Rattle.sets.specs.Members.{In}
use Rattle.book.specs.declared.phase.Phase.{Phase}
use Rattle.book.specs.declared.phase.Phase.TheVariants.{Types, Roles, Groups, Views}
use Rattle.book.specs.Layout.{kind_of, limit}
use Rattle.book.specs.declared.contents.Records.{Records}
use Rattle.book.specs.Contents.{Record, AType, ARole, AGroup, AView, ASubject, count, phase_of, place_of}
use Rattle.book.specs.Encoding.{encode_record, encode}
use Rattle.book.specs.Form.{State, start, advanced}

-- a set of numbers up to 63
abbrev pub Word : NumberSet → Type 0
Word s = s.bits < 2 ^ 64

-- a set of numbers of records of kind p, each declared before
abbrev pub Declared : Records → Phase → NumberSet → Type 0
Declared c p s = Word s × ((k : ℕ) → In k s → k < count p c)

-- the fields of a record are in range, and name only what is declared before it
abbrev pub Ranged : Records → Record → Type 0
Ranged c (AType r) = Declared c Types r.supertypes × Word r.operations
Ranged c (ARole r) = Declared c Roles r.superroles
Ranged c (AGroup r) = Declared c Groups r.supergroups × Declared c Roles r.roles
Ranged c (AView r) =
    (r.controlled < count Types c)
    × Declared c Views r.bases
    × Declared c Views r.required
    × Declared c Roles r.restriction
    × (r.modifiers ≤ 7)
    × Word r.weak.permitted
    × Word r.strong.permitted
    × Word r.weak.denied
    × Word r.strong.denied
Ranged c (ASubject r) = Declared c Groups r.groups

-- a record that may come next
pub record Next (s : State) (r : Record) : Type 0 where
  -- kinds never go down
  pub rising : kind_of s.phase ≤ kind_of (phase_of r)
  -- there are not too many of its kind
  pub room : count (phase_of r) s.contents < limit (phase_of r)
  -- its place is where the book has it
  pub placed : place_of r ≡ s.place
  pub ranged : Ranged s.contents r

-- each record may come after those before it
abbrev pub Ordered : State → List Record → Type 0
Ordered s [] = Unit {0}
Ordered s (r ∷ rs) = Next s r × Ordered (advanced s (length (encode_record r)) (phase_of r) r) rs

-- records that keep the form's rules
abbrev pub Formed : List Record → Type 0
Formed rs = Ordered start rs × (length (encode rs) ≤ 16384)
