-- What records name: only what the book declares. And how many there may be.
use Rattle.std.specs.Prelude.{ℕ, ◌<◌, ◌≤◌, length, slice_index_or}
use Rattle.sets.specs.Members.{In, none}
use Rattle.records.specs.declared.TypeRecord.{TypeRecord}
use Rattle.records.specs.declared.RoleRecord.{RoleRecord}
use Rattle.records.specs.declared.GroupRecord.{GroupRecord}
use Rattle.records.specs.declared.View.{View}
use Rattle.records.specs.declared.SubjectRecord.{SubjectRecord}
use Rattle.book.specs.declared.contents.Records.{Records}
use Rattle.book.specs.declared.phase.Phase.{Phase}
use Rattle.book.specs.Layout.{limit}
use Rattle.book.specs.Contents.{count}

-- the type of a number; one with no link and no operation where none is declared
abbrev pub type_at : Records → ℕ → TypeRecord
type_at c i = slice_index_or c.types i (record { place = 0; supertypes = none; operations = none })

-- the role of a number
abbrev pub role_at : Records → ℕ → RoleRecord
role_at c i = slice_index_or c.roles i (record { place = 0; superroles = none })

-- the group of a number
abbrev pub group_at : Records → ℕ → GroupRecord
group_at c i = slice_index_or c.groups i (record { place = 0; supergroups = none; roles = none })

-- a view with no right, no link and no modifier
abbrev pub no_view : View
no_view = record {
  place = 0;
  controlled = 0;
  bases = none;
  required = none;
  restriction = none;
  modifiers = 0;
  weak = record { permitted = none; denied = none };
  strong = record { permitted = none; denied = none };
}

-- the view of a number
abbrev pub view_at : Records → ℕ → View
view_at c i = slice_index_or c.views i no_view

-- the subject of a number
abbrev pub subject_at : Records → ℕ → SubjectRecord
subject_at c i = slice_index_or c.subjects i (record { place = 0; groups = none })

-- records name only what is declared, and of their own kind only lower numbers
pub record Declares (c : Records) : Type 0 where
  pub supertypes : (i k : ℕ) → In k (type_at c i).supertypes → k < i
  pub superroles : (i k : ℕ) → In k (role_at c i).superroles → k < i
  pub supergroups : (i k : ℕ) → In k (group_at c i).supergroups → k < i
  pub group_roles : (i k : ℕ) → In k (group_at c i).roles → k < length c.roles
  pub controlled : (i : ℕ) → i < length c.views → (view_at c i).controlled < length c.types
  pub bases : (i k : ℕ) → In k (view_at c i).bases → k < i
  pub required : (i k : ℕ) → In k (view_at c i).required → k < i
  pub restriction : (i k : ℕ) → In k (view_at c i).restriction → k < length c.roles
  pub groups : (i k : ℕ) → In k (subject_at c i).groups → k < length c.groups

-- of no kind are there more records than there may be
abbrev pub WithinLimits : Records → Type 0
WithinLimits c = (p : Phase) → count p c ≤ limit p
