-- How records are written as bytes.
use Rattle.std.specs.Prelude.{ℕ, ◌+◌, ◌*◌, cond, ◌&&◌, List, [], ◌∷◌, ◌++◌, ◌==◌}
use Rattle.std.specs.List.{flat_map}
use Rattle.sets.specs.declared.NumberSet.{NumberSet}
use Rattle.sets.specs.Tests.{is_empty}
use Rattle.sets.specs.Bytes.{bytes_of}
use Rattle.book.specs.Layout.{kind_of}
use Rattle.book.specs.Contents.{Record, AType, ARole, AGroup, AView, ASubject, phase_of}

-- a set as a field: eight bytes, or none where it is empty
abbrev pub set_field : NumberSet → List ℕ
set_field s = cond (is_empty s) [] (bytes_of s)

-- two sets as one field: none only where both are empty
abbrev pub pair_field : NumberSet → NumberSet → List ℕ
pair_field s t = cond (is_empty s && is_empty t) [] (bytes_of s ++ bytes_of t)

-- a byte as a field: none where it is 0
abbrev pub byte_field : ℕ → List ℕ
byte_field b = cond (b == 0) [] (b ∷ [])

-- the bytes of each field of a record, from bit 0 of its map upwards
abbrev pub fields_of : Record → List (List ℕ)
fields_of (AType r) = set_field r.supertypes ∷ set_field r.operations ∷ []
fields_of (ARole r) = set_field r.superroles ∷ []
fields_of (AGroup r) = set_field r.supergroups ∷ set_field r.roles ∷ []
fields_of (AView r) =
    (r.controlled ∷ [])
    ∷ set_field r.bases
    ∷ set_field r.required
    ∷ set_field r.restriction
    ∷ byte_field r.modifiers
    ∷ set_field r.weak.permitted
    ∷ set_field r.strong.permitted
    ∷ pair_field r.weak.denied r.strong.denied
    ∷ []
fields_of (ASubject r) = set_field r.groups ∷ []

-- the map has the bit of each field that has bytes
abbrev pub map_of : List (List ℕ) → ℕ
map_of [] = 0
map_of ([] ∷ fs) = 2 * map_of fs
map_of ((b ∷ bs) ∷ fs) = 1 + 2 * map_of fs

-- the fields' bytes, one after the other
abbrev pub together : List (List ℕ) → List ℕ
together fs = flat_map (λ f. f) fs

-- a record: its kind byte, its map, and its fields
abbrev pub encode_record : Record → List ℕ
encode_record r = kind_of (phase_of r) ∷ map_of (fields_of r) ∷ together (fields_of r)

-- a book: the byte 01, and then its records
abbrev pub encode : List Record → List ℕ
encode rs = 1 ∷ flat_map encode_record rs
