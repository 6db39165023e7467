-- Records and their fields' bytes, kind by kind.
use Rattle.std.proofs.Common.{◌≡◌, ℕ, ◌<◌, true, List, [], ◌∷◌, length, get_or, refl, ap, ap₂}
use Rattle.std.specs.Int.Digits.{AllBelowBase}
use Rattle.book.specs.declared.phase.Phase.{Phase}
use Rattle.book.specs.declared.phase.Phase.TheVariants.{Types, Roles, Groups, Views, Subjects}
use Rattle.book.specs.Layout.{layout, needs_first}
use Rattle.book.specs.declared.contents.Records.{Records}
use Rattle.book.specs.Contents.{Record, AType, ARole, AGroup, AView, ASubject, phase_of, place_of}
use Rattle.book.specs.Encoding.{fields_of, encode_record}
use Rattle.book.specs.Form.{record_from}
use Rattle.book.specs.FormRules.{Ranged}
use Rattle.book.proofs.Pieces.{Fields, Fine}
use Rattle.book.proofs.Values.{set_read, operations_back, operations_stood, names_back, names_stood, controlled_back, controlled_stood, modifiers_back, modifiers_stood, modifiers_read, denials_back, denials_stood, denials_read}

-- a field that has to be there has bytes
abbrev pub Needed : Phase → List (List ℕ) → Type 0
Needed p fs = needs_first p ≡ true → 0 < length (get_or fs 0 [])

pub phase_from : (p : Phase) (at : ℕ) (fs : List (List ℕ)) → phase_of (record_from p at fs) ≡ p
phase_from Types at fs = refl
phase_from Roles at fs = refl
phase_from Groups at fs = refl
phase_from Views at fs = refl
phase_from Subjects at fs = refl

pub place_from : (p : Phase) (at : ℕ) (fs : List (List ℕ)) → place_of (record_from p at fs) ≡ at
place_from Types at fs = refl
place_from Roles at fs = refl
place_from Groups at fs = refl
place_from Views at fs = refl
place_from Subjects at fs = refl

-- fine fields make a record in range that is written as they are
pub from_fields : (c : Records) (p : Phase) (at : ℕ) (fs : List (List ℕ)) → Fields (Fine c) (layout p) fs → Needed p fs
    → (fields_of (record_from p at fs) ≡ fs) × Ranged c (record_from p at fs)
from_fields c Types at [] g n = absurd (g)
from_fields c Types at (b0 ∷ []) g n = absurd g.1
from_fields c Types at (b0 ∷ b1 ∷ []) g n =
    let x = names_back c Types b0 g.0 in
    let y = operations_back c b1 g.1.0 in
    (ap₂ (λ p q. p ∷ q ∷ []) x.0 y.0, (x.1, y.1))
from_fields c Types at (b0 ∷ b1 ∷ b2 ∷ fs) g n = absurd g.1.1
from_fields c Roles at [] g n = absurd (g)
from_fields c Roles at (b0 ∷ []) g n =
    let x = names_back c Roles b0 g.0 in
    (ap (λ p. p ∷ []) x.0, x.1)
from_fields c Roles at (b0 ∷ b1 ∷ fs) g n = absurd g.1
from_fields c Groups at [] g n = absurd (g)
from_fields c Groups at (b0 ∷ []) g n = absurd g.1
from_fields c Groups at (b0 ∷ b1 ∷ []) g n =
    let x = names_back c Groups b0 g.0 in
    let y = names_back c Roles b1 g.1.0 in
    (ap₂ (λ p q. p ∷ q ∷ []) x.0 y.0, (x.1, y.1))
from_fields c Groups at (b0 ∷ b1 ∷ b2 ∷ fs) g n = absurd g.1.1
from_fields c Views at [] g n = absurd (g)
from_fields c Views at (b0 ∷ []) g n = absurd g.1
from_fields c Views at (b0 ∷ b1 ∷ []) g n = absurd g.1.1
from_fields c Views at (b0 ∷ b1 ∷ b2 ∷ []) g n = absurd g.1.1.1
from_fields c Views at (b0 ∷ b1 ∷ b2 ∷ b3 ∷ []) g n = absurd g.1.1.1.1
from_fields c Views at (b0 ∷ b1 ∷ b2 ∷ b3 ∷ b4 ∷ []) g n = absurd g.1.1.1.1.1
from_fields c Views at (b0 ∷ b1 ∷ b2 ∷ b3 ∷ b4 ∷ b5 ∷ []) g n = absurd g.1.1.1.1.1.1
from_fields c Views at (b0 ∷ b1 ∷ b2 ∷ b3 ∷ b4 ∷ b5 ∷ b6 ∷ []) g n = absurd g.1.1.1.1.1.1.1
from_fields c Views at (b0 ∷ b1 ∷ b2 ∷ b3 ∷ b4 ∷ b5 ∷ b6 ∷ b7 ∷ []) g n =
    let x0 = controlled_back c b0 g.0 (n refl) in
    let x1 = names_back c Views b1 g.1.0 in
    let x2 = names_back c Views b2 g.1.1.0 in
    let x3 = names_back c Roles b3 g.1.1.1.0 in
    let x4 = modifiers_back c b4 g.1.1.1.1.0 in
    let x5 = operations_back c b5 g.1.1.1.1.1.0 in
    let x6 = operations_back c b6 g.1.1.1.1.1.1.0 in
    let x7 = denials_back c b7 g.1.1.1.1.1.1.1.0 in
    let front = ap₂ (λ p q. p ∷ q) x0.0 (ap₂ (λ p q. p ∷ q) x1.0 (ap₂ (λ p q. p ∷ q) x2.0 (ap₂ (λ p q. p ∷ q) x3.0 (ap₂ (λ p q. p ∷ q) x4.0 (ap₂ (λ p q. p ∷ q) x5.0 (ap₂ (λ p q. p ∷ q) x6.0 (ap (λ p. p ∷ []) x7.0))))))) in
    (front, (x0.1, x1.1, x2.1, x3.1, x4.1, x5.1, x6.1, x7.1, x7.2))
from_fields c Views at (b0 ∷ b1 ∷ b2 ∷ b3 ∷ b4 ∷ b5 ∷ b6 ∷ b7 ∷ b8 ∷ fs) g n = absurd g.1.1.1.1.1.1.1.1
from_fields c Subjects at [] g n = absurd (g)
from_fields c Subjects at (b0 ∷ []) g n =
    let x = names_back c Groups b0 g.0 in
    (ap (λ p. p ∷ []) x.0, x.1)
from_fields c Subjects at (b0 ∷ b1 ∷ fs) g n = absurd g.1

-- a record in range has fine fields, which make it again
pub to_fields : (c : Records) (r : Record) → Ranged c r → AllBelowBase 256 (encode_record r)
    → Fields (Fine c) (layout (phase_of r)) (fields_of r) × (record_from (phase_of r) (place_of r) (fields_of r) ≡ r)
to_fields c (AType r) d u = (
  (names_stood c Types r.supertypes d.0, (operations_stood c r.operations d.1, tt)),
  ap₂ (λ x y. AType (record { place = r.place; supertypes = x; operations = y })) (set_read r.supertypes d.0.0) (set_read r.operations d.1),
)
to_fields c (ARole r) d u = (
  (names_stood c Roles r.superroles d, tt),
  ap (λ x. ARole (record { place = r.place; superroles = x })) (set_read r.superroles d.0),
)
to_fields c (AGroup r) d u = (
  (names_stood c Groups r.supergroups d.0, (names_stood c Roles r.roles d.1, tt)),
  ap₂ (λ x y. AGroup (record { place = r.place; supergroups = x; roles = y })) (set_read r.supergroups d.0.0) (set_read r.roles d.1.0),
)
to_fields c (AView r) d u =
    let x1 = set_read r.bases d.1.0 in
    let x2 = set_read r.required d.2.0 in
    let x3 = set_read r.restriction d.3.0 in
    let x4 = modifiers_read r.modifiers in
    let x5 = set_read r.weak.permitted d.5 in
    let x6 = set_read r.strong.permitted d.6 in
    let x7 = denials_read r.weak.denied r.strong.denied d.7 d.8 in (
      (
        controlled_stood c r.controlled d.0 u.1.1.0,
        (
          names_stood c Views r.bases d.1,
          (
            names_stood c Views r.required d.2,
            (
              names_stood c Roles r.restriction d.3,
              (
                modifiers_stood c r.modifiers d.4,
                (
                  operations_stood c r.weak.permitted d.5,
                  (operations_stood c r.strong.permitted d.6, (denials_stood c r.weak.denied r.strong.denied d.7 d.8, tt)),
                ),
              ),
            ),
          ),
        ),
      ),
      λ i. AView (record {
        place = r.place;
        controlled = r.controlled;
        bases = x1 i;
        required = x2 i;
        restriction = x3 i;
        modifiers = x4 i;
        weak = record { permitted = x5 i; denied = x7.0 i };
        strong = record { permitted = x6 i; denied = x7.1 i };
      }),
    )
to_fields c (ASubject r) d u = (
  (names_stood c Groups r.groups d, tt),
  ap (λ x. ASubject (record { place = r.place; groups = x })) (set_read r.groups d.0),
)
