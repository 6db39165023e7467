-- The form of a book: which records its bytes are, or which refusal they get, and where.
use Rattle.std.specs.Prelude.{ℕ, zero, suc, ◌+◌, ◌/◌, ◌%◌, ◌^◌, Bool, cond, not, ◌&&◌, ◌||◌, List, [], ◌∷◌, length, take, drop, Some, None, Ok, Err, Option, Result, ◌==◌, nat_le, nat_lt, slice_index, slice_index_or}
use Rattle.sets.specs.Tests.{is_empty, is_below}
use Rattle.sets.specs.Bytes.{set_of}
use Rattle.book.specs.declared.phase.Phase.{Phase}
use Rattle.book.specs.declared.phase.Phase.TheVariants.{Types, Roles, Groups, Views, Subjects}
use Rattle.book.specs.declared.refusal.Refusal.{Refusal}
use Rattle.book.specs.declared.refusal.Refusal.TheVariants.{Size, Version, Order, Ends, Map, Empty, TooMany, Undeclared}
use Rattle.book.specs.declared.refusal.Fault.{Fault}
use Rattle.records.specs.declared.TypeRecord.{TypeRecord}
use Rattle.records.specs.declared.RoleRecord.{RoleRecord}
use Rattle.records.specs.declared.GroupRecord.{GroupRecord}
use Rattle.records.specs.declared.Rights.{Rights}
use Rattle.records.specs.declared.View.{View}
use Rattle.book.specs.declared.making.Terms.{Terms}
use Rattle.records.specs.declared.SubjectRecord.{SubjectRecord}
use Rattle.book.specs.Layout.{kind_of, kind_named, limit, Field, names, operations, controlled, modifiers, denials, layout, width, needs_first}
use Rattle.book.specs.declared.contents.Records.{Records}
use Rattle.book.specs.Contents.{Record, AType, ARole, AGroup, AView, ASubject, nothing, count, filed, filed_all}

-- the kind of the next record after one of kind p: kinds never go down
abbrev pub opened : Phase → ℕ → Option Phase
opened p k = cond (nat_le (kind_of p) k) (kind_named k) None

-- the map has the bit of the next field
abbrev pub marked : ℕ → Bool
marked m = m % 2 == 1

-- how many bytes the fields take whose bits the map has
abbrev pub span : List Field → ℕ → ℕ
span [] m = 0
span (f ∷ fs) m = cond (marked m) (width f) 0 + span fs (m / 2)

-- the map has a bit without a field, or lacks that of a field that has to be there
abbrev pub unfit : Phase → ℕ → Bool
unfit p m = nat_le (2 ^ length (layout p)) m || (needs_first p && not (marked m))

-- where the next record ends, or what is wrong before its fields are looked at
pub data Cut : Type 0 where
  -- a record of this kind, of so many bytes
  whole : Phase → ℕ → Cut
  broken : Refusal → Cut

-- the record of kind p at the front of the bytes, where n of the kind came before it
abbrev pub extent : Phase → ℕ → List ℕ → Cut
extent p n bs =
    cond (nat_le (limit p) n) (broken TooMany)
    (cond (nat_lt (length bs) 2) (broken Ends)
    (cond (unfit p (slice_index bs 1)) (broken Map)
    (cond (nat_lt (length bs) (2 + span (layout p) (slice_index bs 1))) (broken Ends)
    (whole p (2 + span (layout p) (slice_index bs 1))))))

-- the same, where the kind byte opened a kind or none
abbrev pub cut_as : Option Phase → (Phase → ℕ) → List ℕ → Cut
cut_as None n bs = broken Order
cut_as (Some p) n bs = extent p (n p) bs

-- the record at the front of the bytes, after one of kind p, where so many of each kind came before it
abbrev pub cut : Phase → (Phase → ℕ) → List ℕ → Cut
cut p n bs = cut_as (opened p (slice_index bs 0)) n bs

-- what is wrong with a set of numbers that is present, where those below n are declared
abbrev pub wrong_names : ℕ → List ℕ → Option Refusal
wrong_names n bs = cond (is_empty (set_of bs)) (Some Empty) (cond (is_below n (set_of bs)) None (Some Undeclared))

-- what is wrong with a set of operations that is present
abbrev pub wrong_operations : List ℕ → Option Refusal
wrong_operations bs = cond (is_empty (set_of bs)) (Some Empty) None

-- what is wrong with a controlled type, where types below n are declared
abbrev pub wrong_controlled : ℕ → List ℕ → Option Refusal
wrong_controlled n bs = cond (nat_lt (slice_index bs 0) n) None (Some Undeclared)

-- what is wrong with modifiers that are present
abbrev pub wrong_modifiers : List ℕ → Option Refusal
wrong_modifiers bs = cond (slice_index bs 0 == 0) (Some Empty) (cond (nat_le (slice_index bs 0) 7) None (Some Undeclared))

-- what is wrong with the two sets of denials where they are present
abbrev pub wrong_denials : List ℕ → Option Refusal
wrong_denials bs = cond (is_empty (set_of (take 8 bs)) && is_empty (set_of (drop 8 bs))) (Some Empty) None

-- what is wrong with the bytes of a field that is present, after the records that are there
abbrev pub wrong : Records → Field → List ℕ → Option Refusal
wrong c (names p) bs = wrong_names (count p c) bs
wrong c operations bs = wrong_operations bs
wrong c controlled bs = wrong_controlled (count Types c) bs
wrong c modifiers bs = wrong_modifiers bs
wrong c denials bs = wrong_denials bs

-- what is wrong with the next field, of w bytes, where it is present
abbrev pub wrong_next : (List ℕ → Option Refusal) → ℕ → ℕ → List ℕ → Option Refusal
wrong_next test w m bs = cond (marked m) (test (take w bs)) None

-- the bytes of the next field, none where the map lacks its bit
abbrev pub piece : ℕ → ℕ → List ℕ → List ℕ
piece w m bs = cond (marked m) (take w bs) []

-- the bytes behind it
abbrev pub behind : ℕ → ℕ → List ℕ → List ℕ
behind w m bs = cond (marked m) (drop w bs) bs

-- the bytes of each field
abbrev pub pieces : List Field → ℕ → List ℕ → List (List ℕ)
pieces [] m bs = []
pieces (f ∷ fs) m bs = piece (width f) m bs ∷ pieces fs (m / 2) (behind (width f) m bs)

-- the first of two, where it is anything
abbrev pub or_else : Option Refusal → Option Refusal → Option Refusal
or_else (Some r) o = Some r
or_else None o = o

-- what is wrong with the first field of which something is wrong
abbrev pub first_wrong : Records → List Field → ℕ → List ℕ → Option Refusal
first_wrong c [] m bs = None
first_wrong c (f ∷ fs) m bs = or_else (wrong_next (wrong c f) (width f) m bs) (first_wrong c fs (m / 2) (behind (width f) m bs))

-- the type that fields make, at a place
abbrev pub type_from : ℕ → List (List ℕ) → TypeRecord
type_from at fs = record { place = at; supertypes = set_of (slice_index_or fs 0 []); operations = set_of (slice_index_or fs 1 []) }

-- the role that fields make
abbrev pub role_from : ℕ → List (List ℕ) → RoleRecord
role_from at fs = record { place = at; superroles = set_of (slice_index_or fs 0 []) }

-- the group that fields make
abbrev pub group_from : ℕ → List (List ℕ) → GroupRecord
group_from at fs = record { place = at; supergroups = set_of (slice_index_or fs 0 []); roles = set_of (slice_index_or fs 1 []) }

-- the rights of a view, weak and strong
abbrev pub rights_from : List (List ℕ) → Rights × Rights
rights_from fs = (
  record { permitted = set_of (slice_index_or fs 0 []); denied = set_of (take 8 (slice_index_or fs 2 [])) },
  record { permitted = set_of (slice_index_or fs 1 []); denied = set_of (drop 8 (slice_index_or fs 2 [])) },
)

-- its role restriction and modifiers, with the rights behind them
abbrev pub terms_from : List (List ℕ) → Terms
terms_from fs = record {
  restriction = set_of (slice_index_or fs 0 []);
  modifiers = slice_index (slice_index_or fs 1 []) 0;
  weak = (rights_from (drop 2 fs)).0;
  strong = (rights_from (drop 2 fs)).1;
}

-- the view that fields make
abbrev pub view_from : ℕ → List (List ℕ) → View
view_from at fs = record {
  place = at;
  controlled = slice_index (slice_index_or fs 0 []) 0;
  bases = set_of (slice_index_or fs 1 []);
  required = set_of (slice_index_or fs 2 []);
  restriction = (terms_from (drop 3 fs)).restriction;
  modifiers = (terms_from (drop 3 fs)).modifiers;
  weak = (terms_from (drop 3 fs)).weak;
  strong = (terms_from (drop 3 fs)).strong;
}

-- the subject that fields make
abbrev pub subject_from : ℕ → List (List ℕ) → SubjectRecord
subject_from at fs = record { place = at; groups = set_of (slice_index_or fs 0 []) }

-- the record of a kind that fields make
abbrev pub record_from : Phase → ℕ → List (List ℕ) → Record
record_from Types at fs = AType (type_from at fs)
record_from Roles at fs = ARole (role_from at fs)
record_from Groups at fs = AGroup (group_from at fs)
record_from Views at fs = AView (view_from at fs)
record_from Subjects at fs = ASubject (subject_from at fs)

-- how far a reading has come: the kind of the last record, the place of the next, and the records so far
pub record State : Type 0 where
  pub phase : Phase
  pub place : ℕ
  pub contents : Records

-- before the first record
abbrev pub start : State
start = record { phase = Types; place = 1; contents = nothing }

-- after a record of so many bytes
abbrev pub advanced : State → ℕ → Phase → Record → State
advanced s size p r = record { phase = p; place = s.place + size; contents = filed s.contents r }

-- a refusal at a place
abbrev pub refused : Refusal → ℕ → Result (List Record) Fault
refused r at = Err (record { refusal = r; place = at })

-- one record, and then the others, where these are not refused
abbrev pub prepended : Record → Result (List Record) Fault → Result (List Record) Fault
prepended r (Ok rs) = Ok (r ∷ rs)
prepended r (Err f) = Err f

-- the records from a whole one on, by what is wrong with its fields; `rest` tells of those behind it
abbrev pub after_fields : (State → List ℕ → Result (List Record) Fault) → State → List ℕ → Phase → ℕ → Option Refusal → Result (List Record) Fault
after_fields rest s bs p size (Some r) = refused r s.place
after_fields rest s bs p size None =
    let r : Record = record_from p s.place (pieces (layout p) (slice_index bs 1) (drop 2 bs)) in
    prepended r (rest (advanced s size p r) (drop size bs))

-- the records from here on, by where the first of them ends
abbrev pub after_cut : (State → List ℕ → Result (List Record) Fault) → State → List ℕ → Cut → Result (List Record) Fault
after_cut rest s bs (broken r) = refused r s.place
after_cut rest s bs (whole p size) = after_fields rest s bs p size (first_wrong s.contents (layout p) (slice_index bs 1) (drop 2 bs))

-- the records that the bytes hold from here on, at most n, or the first refusal
abbrev pub records_in : ℕ → State → List ℕ → Result (List Record) Fault
records_in zero s bs = Ok []
records_in (suc n) s [] = Ok []
records_in (suc n) s (b ∷ bs) = after_cut (records_in n) s (b ∷ bs) (cut s.phase (λ p. count p s.contents) (b ∷ bs))

-- what is wrong with a book before its first record
abbrev pub opening : List ℕ → Option Refusal
opening bs =
    cond (length bs == 0 || nat_lt 16384 (length bs)) (Some Size)
    (cond (not (slice_index bs 0 == 1)) (Some Version)
    None)

-- the records of a book, by what is wrong before the first of them
abbrev pub after_opening : Option Refusal → List ℕ → Result (List Record) Fault
after_opening (Some r) bs = refused r 0
after_opening None bs = records_in (length bs) start (drop 1 bs)

-- the records of a book, in its order, or its refusal; a book has no more records than bytes
abbrev pub form : List ℕ → Result (List Record) Fault
form bs = after_opening (opening bs) bs

-- the same, by the records' numbers, behind those that are there
abbrev pub filing : Records → Result (List Record) Fault → Result Records Fault
filing c (Ok rs) = Ok (filed_all c rs)
filing c (Err f) = Err f

-- what a book contains, or its refusal
abbrev pub reading : List ℕ → Result Records Fault
reading bs = filing nothing (form bs)
