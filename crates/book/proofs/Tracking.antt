-- A reader that counts the records of the last kind knows as much as one that counts all.
use Rattle.std.proofs.Common.{◌≡◌, ℕ, ◌+◌, ◌<◌, ◌≤◌, cond, List, get_or, Some, None, Option, sym, refl, ap, ◌∙◌, subst, ⊎_elim, arith}
use Rattle.std.proofs.lemmas.List.{length_push}
use Rattle.std.proofs.lemmas.Bool.{eq-eqb, ne_eqb, cases_eq}
use Rattle.book.specs.declared.phase.Phase.{Phase}
use Rattle.book.specs.declared.phase.Phase.TheVariants.{Types, Roles, Groups, Views, Subjects}
use Rattle.book.specs.Layout.{kind_of, kind_named, limit}
use Rattle.book.specs.declared.contents.Records.{Records}
use Rattle.book.specs.Contents.{Record, AType, ARole, AGroup, AView, ASubject, nothing, count, filed, phase_of}
use Rattle.book.specs.Declarations.{WithinLimits}
use Rattle.book.specs.Form.{opened, cut_as, cut, extent}
use Rattle.book.specs.FormLaws.{numbered}
use Rattle.book.proofs.Cuts.{kind_named_lem, opened_kind}

-- after n records of kind p, the last, and with these contents, no later kind has any
abbrev pub Tracks : Phase → ℕ → Records → Type 0
Tracks p n c = (q : Phase) → kind_of p ≤ kind_of q → numbered p n q ≡ count q c

pub tracks_none : Tracks Types 0 nothing
tracks_none Types l = refl
tracks_none Roles l = refl
tracks_none Groups l = refl
tracks_none Views l = refl
tracks_none Subjects l = refl

same_phase : (p q : Phase) → kind_of p ≡ kind_of q → p ≡ q
same_phase p q e = let a = kind_named_lem p in let b = kind_named_lem q in let c = ap kind_named e in let s : Some p ≡ Some q = sym a ∙ c ∙ b in cc

count_filed : (c : Records) (r : Record) → count (phase_of r) (filed c r) ≡ count (phase_of r) c + 1
count_filed c (AType r) = length_push c.types r
count_filed c (ARole r) = length_push c.roles r
count_filed c (AGroup r) = length_push c.groups r
count_filed c (AView r) = length_push c.views r
count_filed c (ASubject r) = length_push c.subjects r

count_other : (c : Records) (r : Record) (q : Phase) → (kind_of (phase_of r) ≡ kind_of q → ⊥) → count q (filed c r) ≡ count q c
count_other c (AType r) Types n = absurd (n refl)
count_other c (AType r) Roles n = refl
count_other c (AType r) Groups n = refl
count_other c (AType r) Views n = refl
count_other c (AType r) Subjects n = refl
count_other c (ARole r) Types n = refl
count_other c (ARole r) Roles n = absurd (n refl)
count_other c (ARole r) Groups n = refl
count_other c (ARole r) Views n = refl
count_other c (ARole r) Subjects n = refl
count_other c (AGroup r) Types n = refl
count_other c (AGroup r) Roles n = refl
count_other c (AGroup r) Groups n = absurd (n refl)
count_other c (AGroup r) Views n = refl
count_other c (AGroup r) Subjects n = refl
count_other c (AView r) Types n = refl
count_other c (AView r) Roles n = refl
count_other c (AView r) Groups n = refl
count_other c (AView r) Views n = absurd (n refl)
count_other c (AView r) Subjects n = refl
count_other c (ASubject r) Types n = refl
count_other c (ASubject r) Roles n = refl
count_other c (ASubject r) Groups n = refl
count_other c (ASubject r) Views n = refl
count_other c (ASubject r) Subjects n = absurd (n refl)

pub within_none : WithinLimits nothing
within_none Types = omega arith
within_none Roles = omega arith
within_none Groups = omega arith
within_none Views = omega arith
within_none Subjects = omega arith

-- one record more, where there is room for it
pub within_more : (c : Records) (r : Record) → WithinLimits c → count (phase_of r) c < limit (phase_of r) → WithinLimits (filed c r)
within_more c r w l q =
    ⊎_elim
    (λ e. subst (λ q. count q (filed c r) ≤ limit q) (same_phase (phase_of r) q e) (let n = count_filed c r in omega arith))
    (λ e. let n = count_other c r q e in let b = w q in omega arith)
    (cases_eq (kind_of (phase_of r)) (kind_of q))

numbered_same : (p : Phase) (n : ℕ) (q : Phase) → kind_of p ≡ kind_of q → numbered p n q ≡ n
numbered_same p n q e = ap (λ t. cond t n 0) (eq-eqb (kind_of p) (kind_of q) e)

numbered_other : (p : Phase) (n : ℕ) (q : Phase) → (kind_of p ≡ kind_of q → ⊥) → numbered p n q ≡ 0
numbered_other p n q e = ap (λ t. cond t n 0) (ne_eqb (kind_of p) (kind_of q) e)

-- one record more
pub tracks_more : (p : Phase) (n : ℕ) (c : Records) (r : Record) → Tracks p n c → kind_of p ≤ kind_of (phase_of r)
    → Tracks (phase_of r) (numbered p n (phase_of r) + 1) (filed c r)
tracks_more p n c r t l q h =
    ⊎_elim
    (λ e.
    let f = same_phase (phase_of r) q e in
    numbered_same (phase_of r) (numbered p n (phase_of r) + 1) q e ∙ ap (λ k. k + 1) (t (phase_of r) l) ∙ sym (count_filed c r) ∙ ap (λ q. count q (filed c r)) f)
    (λ e.
    numbered_other (phase_of r) (numbered p n (phase_of r) + 1) q e
    ∙ sym (numbered_other p n q (λ z. absurd (e (omega arith))))
    ∙ t q (omega arith)
    ∙ sym (count_other c r q e))
    (cases_eq (kind_of (phase_of r)) (kind_of q))

cut_same : (o : Option Phase) (m n : Phase → ℕ) (bs : List ℕ) → ((q : Phase) → o ≡ Some q → m q ≡ n q) → cut_as o m bs ≡ cut_as o n bs
cut_same None m n bs h = refl
cut_same (Some q) m n bs h = ap (λ k. extent q k bs) (h q refl)

pub cut_tracks : (p : Phase) (n : ℕ) (c : Records) → Tracks p n c → (bs : List ℕ) → cut p (numbered p n) bs ≡ cut p (λ q. count q c) bs
cut_tracks p n c t bs = cut_same (opened p (get_or bs 0 0)) (numbered p n) (λ q. count q c) bs (λ q e. t q (opened_kind p q (get_or bs 0 0) e).0)
