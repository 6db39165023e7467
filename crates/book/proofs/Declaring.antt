-- The records of a book that was read name only what is declared.
use Rattle.std.proofs.Common.{◌≡◌, ℕ, zero, suc, ◌/◌, ◌<◌, Bool, true, false, cond, not, ◌||◌, eqb, ltb, List, [], ◌∷◌, ◌++◌, length, get_or, take, drop, Some, None, Ok, Err, Option, Result, sym, refl, subst, ⊎_elim, arith}
use Rattle.std.proofs.lemmas.List.{get_or_append_left, get_or_push, get_or_past, length-append, length-drop}
use Rattle.std.proofs.lemmas.Bool.{cases_lt, cases_order, ltb-true}
use Rattle.sets.specs.declared.NumberSet.{NumberSet}
use Rattle.sets.specs.Members.{In, none}
use Rattle.sets.specs.Tests.{is_empty, is_below}
use Rattle.sets.specs.Bytes.{set_of}
use Rattle.sets.proofs.Membership.{not_in_none, none_from}
use Rattle.book.specs.declared.phase.Phase.{Phase}
use Rattle.book.specs.declared.phase.Phase.TheVariants.{Types, Roles, Groups, Views, Subjects}
use Rattle.book.specs.declared.refusal.Refusal.{Refusal}
use Rattle.book.specs.declared.refusal.Fault.{Fault}
use Rattle.book.specs.Layout.{Field, names, operations, controlled, modifiers, width, layout, terms_fields, rights_fields}
use Rattle.book.specs.declared.contents.Records.{Records}
use Rattle.book.specs.Contents.{Record, AType, ARole, AGroup, AView, ASubject, nothing, count, filed, filed_all}
use Rattle.book.specs.Form.{marked, piece, pieces, behind, wrong, wrong_next, wrong_names, wrong_controlled, or_else, first_wrong, Cut, whole, broken, cut, record_from, State, start, advanced, after_fields, after_cut, records_in, form, filing, reading}
use Rattle.book.specs.Declarations.{Declares, no_view}
use Rattle.book.proofs.Pieces.{or_else_none}
use Rattle.book.proofs.Fieldwise.{Needed}
use Rattle.book.proofs.Cuts.{Whole, cut_whole, needed}
use Rattle.book.proofs.Values.{both_none, below_none}
use Rattle.book.proofs.Encoded.{not_ok, prepended_ok, opens}

-- ---- the fields of one record

-- what a record names is declared before it
abbrev Names : Records → Record → Type 0
Names c (AType r) = (k : ℕ) → In k r.supertypes → k < length c.types
Names c (ARole r) = (k : ℕ) → In k r.superroles → k < length c.roles
Names c (AGroup r) = ((k : ℕ) → In k r.supergroups → k < length c.groups) × ((k : ℕ) → In k r.roles → k < length c.roles)
Names c (AView r) =
    (r.controlled < length c.types)
    × ((k : ℕ) → In k r.bases → k < length c.views)
    × ((k : ℕ) → In k r.required → k < length c.views)
    × ((k : ℕ) → In k r.restriction → k < length c.roles)
Names c (ASubject r) = (k : ℕ) → In k r.groups → k < length c.groups

named_by : (n : ℕ) (b : Bool) (bs : List ℕ) → cond b (wrong_names n bs) None ≡ None → (k : ℕ) → In k (set_of (cond b bs [])) → k < n
named_by n true bs e k h =
    let t = both_none (is_empty (set_of bs)) (is_below n (set_of bs)) e in
    ⊎_elim (λ l. l) (λ l. absurd (none_from n (set_of bs).bits k (ltb-true _ _ t.1) l h)) (cases_lt k n)
named_by n false bs e k h = absurd (not_in_none k h)

-- a set of names that passes names what is declared
named : (n m : ℕ) (bs : List ℕ) → wrong_next (wrong_names n) 8 m bs ≡ None → (k : ℕ) → In k (set_of (piece 8 m bs)) → k < n
named n m bs e = named_by n (marked m) (take 8 bs) e

controlled_by : (n : ℕ) (b : Bool) (bs : List ℕ) → cond b (wrong_controlled n bs) None ≡ None → 0 < length (cond b bs []) → get_or (cond b bs []) 0 0 < n
controlled_by n true bs e l = ltb-true _ _ (below_none _ e)
controlled_by n false bs e l = absurd (omega arith)

-- nothing is wrong with the first field, and nothing with the others
none_wrong : (c : Records) (f : Field) (L : List Field) (m : ℕ) (bs : List ℕ) → first_wrong c (f ∷ L) m bs ≡ None
    → (wrong_next (wrong c f) (width f) m bs ≡ None) × (first_wrong c L (m / 2) (behind (width f) m bs) ≡ None)
none_wrong c f L m bs e = or_else_none (wrong_next (wrong c f) (width f) m bs) (first_wrong c L (m / 2) (behind (width f) m bs)) e

-- fields that pass make a record that names what is declared
names_from : (c : Records) (p : Phase) (at m : ℕ) (bs : List ℕ) → first_wrong c (layout p) m bs ≡ None → Needed p (pieces (layout p) m bs)
    → Names c (record_from p at (pieces (layout p) m bs))
names_from c Types at m bs e n = named (length c.types) m bs (none_wrong c (names Types) (operations ∷ []) m bs e).0
names_from c Roles at m bs e n = named (length c.roles) m bs (none_wrong c (names Roles) [] m bs e).0
names_from c Groups at m bs e n =
    let x = none_wrong c (names Groups) (names Roles ∷ []) m bs e in
    let b1 = behind 8 m bs in
    (named (length c.groups) m bs x.0, named (length c.roles) (m / 2) b1 (none_wrong c (names Roles) [] (m / 2) b1 x.1).0)
names_from c Views at m bs e n =
    let b1 = behind 1 m bs in
    let b2 = behind 8 (m / 2) b1 in
    let b3 = behind 8 (m / 2 / 2) b2 in
    let x0 = none_wrong c controlled (names Views ∷ names Views ∷ terms_fields) m bs e in
    let x1 = none_wrong c (names Views) (names Views ∷ terms_fields) (m / 2) b1 x0.1 in
    let x2 = none_wrong c (names Views) terms_fields (m / 2 / 2) b2 x1.1 in
    let x3 = none_wrong c (names Roles) (modifiers ∷ rights_fields) (m / 2 / 2 / 2) b3 x2.1 in (
      controlled_by (length c.types) (marked m) (take 1 bs) x0.0 (n refl),
      named (length c.views) (m / 2) b1 x1.0,
      named (length c.views) (m / 2 / 2) b2 x2.0,
      named (length c.roles) (m / 2 / 2 / 2) b3 x3.0,
    )
names_from c Subjects at m bs e n = named (length c.groups) m bs (none_wrong c (names Groups) [] m bs e).0

-- ---- one record more

-- what holds of each item of a list and of one more, by its number, holds of each item of the longer list
each_push : {A : Type 0} (P : ℕ → A → Type 0) (d : A) (xs : List A) (r : A) → ((i : ℕ) → i < length xs → P i (get_or xs i d)) → P (length xs) r
    → ((i : ℕ) → length xs < i → P i d) → (i : ℕ) → P i (get_or (xs ++ (r ∷ [])) i d)
each_push P d xs r each one past i =
    ⊎_elim
    (λ e. subst (P i) (sym (get_or_push xs r d i (sym e))) (subst (λ j. P j r) (sym e) one))
    (⊎_elim
    (λ l. subst (P i) (sym (get_or_append_left xs (r ∷ []) d i l)) (each i l))
    (λ l. let n = length-append xs (r ∷ []) in subst (P i) (sym (get_or_past (xs ++ (r ∷ [])) i d (omega arith))) (past i l)))
    (cases_order i (length xs))

-- the same of a set that each item has, where an item of no record has none
sets_push : {A : Type 0} (of : A → NumberSet) (n : ℕ → ℕ) (d : A) (xs : List A) (r : A) → of d ≡ none → ((i k : ℕ) → In k (of (get_or xs i d)) → k < n i)
    → ((k : ℕ) → In k (of r) → k < n (length xs)) → (i k : ℕ) → In k (of (get_or (xs ++ (r ∷ [])) i d)) → k < n i
sets_push of n d xs r e each one =
    each_push (λ i x. (k : ℕ) → In k (of x) → k < n i) d xs r (λ i l. each i) one (λ i l k h. absurd (not_in_none k (subst (In k) e h)))

filed_declares : (c : Records) (r : Record) → Declares c → Names c r → Declares (filed c r)
filed_declares c (AType r) d n = record {
  supertypes = sets_push (λ t. t.supertypes) (λ i. i) _ c.types r refl d.supertypes n;
  superroles = d.superroles;
  supergroups = d.supergroups;
  group_roles = d.group_roles;
  controlled = λ i l. let more = length-append c.types (r ∷ []) in let h = d.controlled i l in omega arith;
  bases = d.bases;
  required = d.required;
  restriction = d.restriction;
  groups = d.groups;
}
filed_declares c (ARole r) d n =
    let more = length-append c.roles (r ∷ []) in
    record {
      supertypes = d.supertypes;
      superroles = sets_push (λ t. t.superroles) (λ i. i) _ c.roles r refl d.superroles n;
      supergroups = d.supergroups;
      group_roles = λ i k h. let l = d.group_roles i k h in omega arith;
      controlled = d.controlled;
      bases = d.bases;
      required = d.required;
      restriction = λ i k h. let l = d.restriction i k h in omega arith;
      groups = d.groups;
    }
filed_declares c (AGroup r) d n = record {
  supertypes = d.supertypes;
  superroles = d.superroles;
  supergroups = sets_push (λ t. t.supergroups) (λ i. i) _ c.groups r refl d.supergroups n.0;
  group_roles = sets_push (λ t. t.roles) (λ i. length c.roles) _ c.groups r refl d.group_roles n.1;
  controlled = d.controlled;
  bases = d.bases;
  required = d.required;
  restriction = d.restriction;
  groups = λ i k h. let more = length-append c.groups (r ∷ []) in let l = d.groups i k h in omega arith;
}
filed_declares c (AView r) d n =
    let more = length-append c.views (r ∷ []) in
    record {
      supertypes = d.supertypes;
      superroles = d.superroles;
      supergroups = d.supergroups;
      group_roles = d.group_roles;
      controlled =
          each_push (λ i v. i < length (c.views ++ (r ∷ [])) → v.controlled < length c.types) no_view c.views r (λ i l m. d.controlled i l) (λ m. n.0) (λ i l m. absurd (omega arith));
      bases = sets_push (λ t. t.bases) (λ i. i) _ c.views r refl d.bases n.1;
      required = sets_push (λ t. t.required) (λ i. i) _ c.views r refl d.required n.2;
      restriction = sets_push (λ t. t.restriction) (λ i. length c.roles) _ c.views r refl d.restriction n.3;
      groups = d.groups;
    }
filed_declares c (ASubject r) d n = record {
  supertypes = d.supertypes;
  superroles = d.superroles;
  supergroups = d.supergroups;
  group_roles = d.group_roles;
  controlled = d.controlled;
  bases = d.bases;
  required = d.required;
  restriction = d.restriction;
  groups = sets_push (λ t. t.groups) (λ i. length c.groups) _ c.subjects r refl d.groups n;
}

-- ---- the whole book

pub nothing_declares : Declares nothing
nothing_declares = record {
  supertypes = λ i k h. absurd (not_in_none k h);
  superroles = λ i k h. absurd (not_in_none k h);
  supergroups = λ i k h. absurd (not_in_none k h);
  group_roles = λ i k h. absurd (not_in_none k h);
  controlled = λ i l. absurd (omega arith);
  bases = λ i k h. absurd (not_in_none k h);
  required = λ i k h. absurd (not_in_none k h);
  restriction = λ i k h. absurd (not_in_none k h);
  groups = λ i k h. absurd (not_in_none k h);
}

-- what at most n records leave declared
abbrev DeclaredBy : ℕ → Type 0
DeclaredBy n = (s : State) (bs : List ℕ) (rs : List Record) → Declares s.contents → records_in n s bs ≡ Ok rs → Declares (filed_all s.contents rs)

module _ (n : ℕ) (later : DeclaredBy n) (s : State) (bs : List ℕ) (rs : List Record) (d : Declares s.contents) where
  fields_declared : (p : Phase) (size : ℕ) → Whole s.phase (λ p. count p s.contents) bs p size → (o : Option Refusal)
      → first_wrong s.contents (layout p) (get_or bs 1 0) (drop 2 bs) ≡ o → after_fields (records_in n) s bs p size o ≡ Ok rs → Declares (filed_all s.contents rs)
  fields_declared p size w (Some r) q h = absurd (not_ok _ rs h)
  fields_declared p size w None q h =
      let m = get_or bs 1 0 in
      let x = w.extent in
      let a = x.size_is in
      let b = x.long in
      let l = length-drop 2 bs in
      let r = record_from p s.place (pieces (layout p) m (drop 2 bs)) in
      let t = advanced s size p r in
      let split = prepended_ok r (records_in n t (drop size bs)) rs h in
      let called = names_from s.contents p s.place m (drop 2 bs) q (needed p m (drop 2 bs) x.fit (omega arith)) in
      subst (λ rs. Declares (filed_all s.contents rs)) (sym split.2) (later t (drop size bs) split.0 (filed_declares s.contents r d called) split.1)

  record_declared : (x : Cut) → cut s.phase (λ p. count p s.contents) bs ≡ x → after_cut (records_in n) s bs x ≡ Ok rs → Declares (filed_all s.contents rs)
  record_declared (broken r) q h = absurd (not_ok _ rs h)
  record_declared (whole p size) q h = fields_declared p size (cut_whole s.phase (λ p. count p s.contents) bs p size q) _ refl h

none_read : (c : Records) (rs : List Record) → Declares c → ◌≡◌ {A = Result (List Record) Fault} (Ok []) (Ok rs) → Declares (filed_all c rs)
none_read c rs d e = subst (λ rs. Declares (filed_all c rs)) (let f : [] ≡ rs = cc in f) d

declared_in : (n : ℕ) → DeclaredBy n
declared_in zero s bs rs d e = none_read s.contents rs d e
declared_in (suc n) s [] rs d e = none_read s.contents rs d e
declared_in (suc n) s (b ∷ bs) rs d e = record_declared n (declared_in n) s (b ∷ bs) rs d _ refl e

declared_of : (bs : List ℕ) (c : Records) (o : Result (List Record) Fault) → form bs ≡ o → filing nothing o ≡ Ok c → Declares c
declared_of bs c (Err f) q e = absurd (let z : ◌≡◌ {A = ℕ} 0 1 = cc in omega arith)
declared_of bs c (Ok rs) q e =
    let n = length bs in
    let t = opens (eqb n 0 || ltb 16384 n) (not (eqb (get_or bs 0 0) 1)) bs rs q in
    let same : filed_all nothing rs ≡ c = cc in
    subst Declares same (declared_in n start (drop 1 bs) rs nothing_declares t.2)

-- a book that is read names only what it declares
pub declares : (bs : List ℕ) (c : Records) → reading bs ≡ Ok c → Declares c
declares bs c e = declared_of bs c (form bs) refl e
