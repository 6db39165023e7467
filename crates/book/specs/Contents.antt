-- What a book contains: its records, in the order of the book and by their numbers.
use Rattle.std.specs.Prelude.{ℕ, List, [], ◌∷◌, ◌++◌, length}
use Rattle.book.specs.declared.phase.Phase.{Phase}
use Rattle.book.specs.declared.phase.Phase.TheVariants.{Types, Roles, Groups, Views, Subjects}
pub use Rattle.records.specs.declared.Record.{Record}
pub use Rattle.records.specs.declared.Record.TheVariants.{AType, ARole, AGroup, AView, ASubject}
use Rattle.book.specs.declared.contents.Records.{Records}

-- the kind of a record
abbrev pub phase_of : Record → Phase
phase_of (AType r) = Types
phase_of (ARole r) = Roles
phase_of (AGroup r) = Groups
phase_of (AView r) = Views
phase_of (ASubject r) = Subjects

-- the place of a record
abbrev pub place_of : Record → ℕ
place_of (AType r) = r.place
place_of (ARole r) = r.place
place_of (AGroup r) = r.place
place_of (AView r) = r.place
place_of (ASubject r) = r.place

-- no record at all
abbrev pub nothing : Records
nothing = record { types = []; roles = []; groups = []; views = []; subjects = [] }

-- how many records of a kind there are
abbrev pub count : Phase → Records → ℕ
count Types c = length c.types
count Roles c = length c.roles
count Groups c = length c.groups
count Views c = length c.views
count Subjects c = length c.subjects

-- one record more: it gets the next number of its kind
abbrev pub filed : Records → Record → Records
filed c (AType r) = record { types = c.types ++ (r ∷ []); roles = c.roles; groups = c.groups; views = c.views; subjects = c.subjects }
filed c (ARole r) = record { types = c.types; roles = c.roles ++ (r ∷ []); groups = c.groups; views = c.views; subjects = c.subjects }
filed c (AGroup r) = record { types = c.types; roles = c.roles; groups = c.groups ++ (r ∷ []); views = c.views; subjects = c.subjects }
filed c (AView r) = record { types = c.types; roles = c.roles; groups = c.groups; views = c.views ++ (r ∷ []); subjects = c.subjects }
filed c (ASubject r) = record { types = c.types; roles = c.roles; groups = c.groups; views = c.views; subjects = c.subjects ++ (r ∷ []) }

-- many records more, in their order
abbrev pub filed_all : Records → List Record → Records
filed_all c [] = c
filed_all c (r ∷ rs) = filed_all (filed c r) rs
