-- The format's table: the kinds of records, how many there may be of each, and their fields.
use Rattle.std.specs.Prelude.{ℕ, Bool, true, false, cond, List, [], ◌∷◌, Some, None, Option, ◌==◌}
use Rattle.book.specs.declared.phase.Phase.{Phase}
use Rattle.book.specs.declared.phase.Phase.TheVariants.{Types, Roles, Groups, Views, Subjects}

-- the kind byte of a record
abbrev pub kind_of : Phase → ℕ
kind_of Types = 1
kind_of Roles = 2
kind_of Groups = 3
kind_of Views = 4
kind_of Subjects = 5

-- the kind that a kind byte names, if any
abbrev pub kind_named : ℕ → Option Phase
kind_named k =
    cond (k == 1) (Some Types)
    (cond (k == 2) (Some Roles)
    (cond (k == 3) (Some Groups)
    (cond (k == 4) (Some Views)
    (cond (k == 5) (Some Subjects)
    None))))

-- the most records of a kind
abbrev pub limit : Phase → ℕ
limit Types = 64
limit Roles = 64
limit Groups = 64
limit Views = 64
limit Subjects = 256

-- what a field holds
pub data Field : Type 0 where
  -- a set of records of one kind, by their numbers
  names : Phase → Field
  -- a set of operations
  operations : Field
  -- the number of a view's controlled type, which is always there
  controlled : Field
  -- the modifiers of a view
  modifiers : Field
  -- two sets of operations, those denied weakly and those denied strongly
  denials : Field

-- the last fields of a view: its rights
abbrev pub rights_fields : List Field
rights_fields = operations ∷ operations ∷ denials ∷ []

-- and before them, who may hold it and how
abbrev pub terms_fields : List Field
terms_fields = names Roles ∷ modifiers ∷ rights_fields

-- the fields of a record, from bit 0 of its map upwards
abbrev pub layout : Phase → List Field
layout Types = names Types ∷ operations ∷ []
layout Roles = names Roles ∷ []
layout Groups = names Groups ∷ names Roles ∷ []
layout Views = controlled ∷ names Views ∷ names Views ∷ terms_fields
layout Subjects = names Groups ∷ []

-- how many bytes a field takes where it is present
abbrev pub width : Field → ℕ
width (names p) = 8
width operations = 8
width controlled = 1
width modifiers = 1
width denials = 16

-- whether the first field of a record has to be there
abbrev pub needs_first : Phase → Bool
needs_first Types = false
needs_first Roles = false
needs_first Groups = false
needs_first Views = true
needs_first Subjects = false
