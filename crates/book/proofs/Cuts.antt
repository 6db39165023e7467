-- When a record is whole, and what is then known of it.
use Rattle.std.proofs.Common.{◌≡◌, ℕ, ◌+◌, ◌/◌, ◌^◌, ◌<◌, ◌≤◌, Bool, true, false, cond, not, ◌&&◌, eqb, ltb, leb, List, [], ◌∷◌, length, get_or, take, Some, None, Option, sym, refl, ap, ◌∙◌, subst, ⊎_elim, arith}
use Rattle.std.proofs.lemmas.Bool.{eqb-true, cases_Bool, leb-true, leb-false, ltb-false, le-leb, lt-leb, le-ltb, or_parts, or_from, and_left, and_right, not-false}
use Rattle.std.proofs.lemmas.List.{length-take-le}
use Rattle.book.specs.declared.phase.Phase.{Phase}
use Rattle.book.specs.declared.phase.Phase.TheVariants.{Types, Roles, Groups, Views, Subjects}
use Rattle.book.specs.declared.refusal.Refusal.TheVariants.{Ends, Map, TooMany}
use Rattle.book.specs.Layout.{kind_of, kind_named, limit, names, operations, modifiers, denials, layout, needs_first}
use Rattle.book.specs.Form.{opened, marked, span, unfit, whole, broken, extent, cut_as, cut, pieces}
use Rattle.book.proofs.Fieldwise.{Needed}

-- what is known of a record of kind p that is whole
pub record Extent (p : Phase) (n : ℕ) (bs : List ℕ) (size : ℕ) : Type 0 where
  pub room : n < limit p
  pub fit : unfit p (get_or bs 1 0) ≡ false
  pub size_is : size ≡ 2 + span (layout p) (get_or bs 1 0)
  pub long : size ≤ length bs

-- of four tests none may hold
all_passed : (q p : Phase) (k size : ℕ) (s t u v : Bool)
    → cond s (broken TooMany) (cond t (broken Ends) (cond u (broken Map) (cond v (broken Ends) (whole p k)))) ≡ whole q size
    → (s ≡ false) × (t ≡ false) × (u ≡ false) × (v ≡ false) × (p ≡ q) × (k ≡ size)
all_passed q p k size true t u v e = absurd (let z : ◌≡◌ {A = ℕ} 0 1 = cc in omega arith)
all_passed q p k size false true u v e = absurd (let z : ◌≡◌ {A = ℕ} 0 1 = cc in omega arith)
all_passed q p k size false false true v e = absurd (let z : ◌≡◌ {A = ℕ} 0 1 = cc in omega arith)
all_passed q p k size false false false true e = absurd (let z : ◌≡◌ {A = ℕ} 0 1 = cc in omega arith)
all_passed q p k size false false false false e = (refl, refl, refl, refl, cc, cc)

pub extent_whole : (p q : Phase) (n size : ℕ) (bs : List ℕ) → extent p n bs ≡ whole q size → (p ≡ q) × Extent p n bs size
extent_whole p q n size bs e =
    let k = 2 + span (layout p) (get_or bs 1 0) in
    let a = all_passed q p k size (leb (limit p) n) (ltb (length bs) 2) (unfit p (get_or bs 1 0)) (ltb (length bs) k) e in
    let r = leb-false (limit p) n a.0 in
    let l = ltb-false (length bs) k a.3 in
    let s = a.5 in
    (a.4, record { room = r; fit = a.2; size_is = sym s; long = omega arith })

pub whole_extent : (p : Phase) (n size : ℕ) (bs : List ℕ) → Extent p n bs size → extent p n bs ≡ whole p size
whole_extent p n size bs x =
    let k = 2 + span (layout p) (get_or bs 1 0) in
    let s = x.size_is in
    let l = x.long in
    let a = lt-leb (limit p) n x.room in
    let b : ltb (length bs) 2 ≡ false = le-ltb (length bs) 2 (omega arith) in
    let d : ltb (length bs) k ≡ false = le-ltb (length bs) k (omega arith) in
    ap (λ t. cond t (broken TooMany) (cond (ltb (length bs) 2) (broken Ends) (cond (unfit p (get_or bs 1 0)) (broken Map) (cond (ltb (length bs) k) (broken Ends) (whole p k))))) a
    ∙ ap (λ t. cond t (broken Ends) (cond (unfit p (get_or bs 1 0)) (broken Map) (cond (ltb (length bs) k) (broken Ends) (whole p k)))) b
    ∙ ap (λ t. cond t (broken Map) (cond (ltb (length bs) k) (broken Ends) (whole p k))) x.fit
    ∙ ap (λ t. cond t (broken Ends) (whole p k)) d
    ∙ ap (whole p) (sym s)

-- ---- kinds

pub kind_named_lem : (p : Phase) → kind_named (kind_of p) ≡ Some p
kind_named_lem Types = refl
kind_named_lem Roles = refl
kind_named_lem Groups = refl
kind_named_lem Views = refl
kind_named_lem Subjects = refl

chosen : (p q : Phase) (t : Bool) (o : Option Phase) (k : ℕ) → (t ≡ true → k ≡ kind_of p) → (o ≡ Some q → k ≡ kind_of q) → cond t (Some p) o ≡ Some q → k ≡ kind_of q
chosen p q true o k h i e = let f : p ≡ q = cc in h refl ∙ ap kind_of f
chosen p q false o k h i e = i e

named_kind : (k : ℕ) (q : Phase) → kind_named k ≡ Some q → k ≡ kind_of q
named_kind k q =
    chosen Types q (eqb k 1) _ k (eqb-true k 1)
    (chosen Roles q (eqb k 2) _ k (eqb-true k 2)
    (chosen Groups q (eqb k 3) _ k (eqb-true k 3)
    (chosen Views q (eqb k 4) _ k (eqb-true k 4) (chosen Subjects q (eqb k 5) _ k (eqb-true k 5) (λ e. absurd (let z : ◌≡◌ {A = ℕ} 0 1 = cc in omega arith))))))

only_some : (t : Bool) (o : Option Phase) (q : Phase) → cond t o None ≡ Some q → (t ≡ true) × (o ≡ Some q)
only_some true o q e = (refl, e)
only_some false o q e = absurd (let z : ◌≡◌ {A = ℕ} 0 1 = cc in omega arith)

pub opened_kind : (p q : Phase) (k : ℕ) → opened p k ≡ Some q → (kind_of p ≤ kind_of q) × (k ≡ kind_of q)
opened_kind p q k e =
    let o = only_some (leb (kind_of p) k) (kind_named k) q e in
    let f = named_kind k q o.1 in
    let l = leb-true (kind_of p) k o.0 in
    (omega arith, f)

pub kind_opened : (p q : Phase) → kind_of p ≤ kind_of q → opened p (kind_of q) ≡ Some q
kind_opened p q l = ap (λ t. cond t (kind_named (kind_of q)) None) (le-leb (kind_of p) (kind_of q) l) ∙ kind_named_lem q

-- ---- a whole record

cut_as_lem : (o : Option Phase) (n : Phase → ℕ) (bs : List ℕ) (q : Phase) (size : ℕ) → cut_as o n bs ≡ whole q size → (o ≡ Some q) × Extent q (n q) bs size
cut_as_lem None n bs q size e = absurd (let z : ◌≡◌ {A = ℕ} 0 1 = cc in omega arith)
cut_as_lem (Some p) n bs q size e =
    let x = extent_whole p q (n p) size bs e in
    (ap Some x.0, subst (λ p. Extent p (n p) bs size) x.0 x.1)

pub record Whole (p : Phase) (n : Phase → ℕ) (bs : List ℕ) (q : Phase) (size : ℕ) : Type 0 where
  pub rising : kind_of p ≤ kind_of q
  pub kind : get_or bs 0 0 ≡ kind_of q
  pub extent : Extent q (n q) bs size

pub cut_whole : (p : Phase) (n : Phase → ℕ) (bs : List ℕ) (q : Phase) (size : ℕ) → cut p n bs ≡ whole q size → Whole p n bs q size
cut_whole p n bs q size e =
    let x = cut_as_lem (opened p (get_or bs 0 0)) n bs q size e in
    let o = opened_kind p q (get_or bs 0 0) x.0 in
    record { rising = o.0; kind = o.1; extent = x.1 }

pub whole_cut : (p : Phase) (n : Phase → ℕ) (bs : List ℕ) (q : Phase) (size : ℕ) → Whole p n bs q size → cut p n bs ≡ whole q size
whole_cut p n bs q size w =
    ap (λ k. cut_as (opened p k) n bs) w.kind ∙ ap (λ o. cut_as o n bs) (kind_opened p q w.rising) ∙ whole_extent q (n q) size bs w.extent

-- ---- maps that fit

pub fit_below : (p : Phase) (m : ℕ) → unfit p m ≡ false → m < 2 ^ length (layout p)
fit_below p m e = leb-false (2 ^ length (layout p)) m (or_parts (leb (2 ^ length (layout p)) m) (needs_first p && not (marked m)) e).0

pub needed : (p : Phase) (m : ℕ) (bs : List ℕ) → unfit p m ≡ false → span (layout p) m ≤ length bs → Needed p (pieces (layout p) m bs)
needed Types m bs e l = λ h. absurd (let z : ◌≡◌ {A = ℕ} 0 1 = cc in omega arith)
needed Roles m bs e l = λ h. absurd (let z : ◌≡◌ {A = ℕ} 0 1 = cc in omega arith)
needed Groups m bs e l = λ h. absurd (let z : ◌≡◌ {A = ℕ} 0 1 = cc in omega arith)
needed Subjects m bs e l = λ h. absurd (let z : ◌≡◌ {A = ℕ} 0 1 = cc in omega arith)
needed Views m bs e l = λ h.
    let t : marked m ≡ true = not-false (marked m) (or_parts (leb 256 m) (not (marked m)) e).1 in
    let s = ap (λ t. cond t 1 0 + span (names Views ∷ names Views ∷ names Roles ∷ modifiers ∷ operations ∷ operations ∷ denials ∷ []) (m / 2)) t in
    let q = ap (λ t. length (cond t (take 1 bs) [])) t in
    let k = length-take-le 1 bs (omega arith) in
    omega arith

pub unfit_not : (p : Phase) (m : ℕ) → m < 2 ^ length (layout p) → (needs_first p ≡ true → marked m ≡ true) → unfit p m ≡ false
unfit_not p m l h = or_from _ _ (lt-leb (2 ^ length (layout p)) m l)
    (⊎_elim (λ t. and_right (needs_first p) (not (marked m)) (ap not (h t))) (and_left (needs_first p) (not (marked m))) (cases_Bool (needs_first p)))
