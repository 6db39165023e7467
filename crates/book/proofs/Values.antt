-- The values of fields, and the bytes that they are written as.
use Rattle.std.proofs.Common.{◌≡◌, ℕ, ◌^◌, ◌<◌, ◌≤◌, Bool, true, false, cond, ◌&&◌, eqb, leb, ◌⊎◌, List, [], ◌∷◌, ◌++◌, length, get_or, take, drop, Some, None, sym, refl, ap, ◌∙◌, subst, ap₂, inl, inr, ⊎_elim, arith}
use Rattle.std.specs.Int.Digits.{number_from_digits, AllBelowBase}
use Rattle.std.proofs.lemmas.Int.Digits.{number_lt}
use Rattle.std.proofs.ByRecursion.{All-take, All-drop, All-append}
use Rattle.std.proofs.lemmas.List.{take_at, drop_at, length-append, length-take-le, length-drop, take-append-drop}
use Rattle.std.proofs.lemmas.Bool.{eqb-true, cases_Bool, ltb-true, lt-ltb, leb-true, le-leb, and_parts, cond-false, cond-true}
use Rattle.sets.specs.declared.NumberSet.{NumberSet}
use Rattle.sets.specs.Members.{In}
use Rattle.sets.specs.Tests.{is_empty, is_below}
use Rattle.sets.specs.Bytes.{set_of, bytes_of}
use Rattle.sets.proofs.ByteValues.{bytes_back, number_back, length_bytes, bytes_under}
use Rattle.sets.proofs.Membership.{below}
use Rattle.book.specs.declared.phase.Phase.{Phase}
use Rattle.book.specs.declared.phase.Phase.TheVariants.{Types}
use Rattle.book.specs.declared.refusal.Refusal.TheVariants.{Empty, Undeclared}
use Rattle.book.specs.Layout.{Field, names, operations, controlled, modifiers, denials, width}
use Rattle.book.specs.declared.contents.Records.{Records}
use Rattle.book.specs.Contents.{count}
use Rattle.book.specs.Encoding.{set_field, pair_field, byte_field}
use Rattle.book.specs.Form.{wrong}
use Rattle.book.specs.FormRules.{Word, Declared}
use Rattle.book.proofs.Pieces.{Fine}

-- a field as it stands in a part: without bytes, or fine
abbrev pub Stood : Records → Field → List ℕ → Type 0
Stood c f b = (b ≡ []) ⊎ ((length b ≡ width f) × Fine c f b)

-- what the tests of a field leave
empty_none : (x : Bool) → cond x (Some Empty) None ≡ None → x ≡ false
empty_none true e = absurd (let z : ◌≡◌ {A = ℕ} 0 1 = cc in omega arith)
empty_none false e = refl

pub below_none : (x : Bool) → cond x None (Some Undeclared) ≡ None → x ≡ true
below_none true e = refl
below_none false e = absurd (let z : ◌≡◌ {A = ℕ} 0 1 = cc in omega arith)

pub both_none : (x y : Bool) → cond x (Some Empty) (cond y None (Some Undeclared)) ≡ None → (x ≡ false) × (y ≡ true)
both_none true y e = absurd (let z : ◌≡◌ {A = ℕ} 0 1 = cc in omega arith)
both_none false y e = (refl, below_none y e)

-- ---- sets

word_of_none : Word (set_of [])
word_of_none = omega arith

word_of_bytes : (b : List ℕ) → length b ≡ 8 → AllBelowBase 256 b → Word (set_of b)
word_of_bytes b l u = let h = number_lt 256 b u in let e = ap (λ n. 256 ^ n) l in omega arith

set_of_bytes : (s : NumberSet) → Word s → set_of (bytes_of s) ≡ s
set_of_bytes s w = ap (λ n. let t : NumberSet = record { bits = n } in t) (number_back 8 s.bits w)

bytes_of_set : (b : List ℕ) → length b ≡ 8 → AllBelowBase 256 b → bytes_of (set_of b) ≡ b
bytes_of_set b l u = bytes_back 8 b u l

-- a set that is present and not empty is written as it was read
set_back : (b : List ℕ) → (b ≡ []) ⊎ ((length b ≡ 8) × AllBelowBase 256 b × (is_empty (set_of b) ≡ false)) → set_field (set_of b) ≡ b
set_back b (inl e) = subst (λ b. set_field (set_of b) ≡ b) (sym e) refl
set_back b (inr p) = cond-false (is_empty (set_of b)) [] (bytes_of (set_of b)) p.2 ∙ bytes_of_set b p.0 p.1

-- and read as it was written
pub set_read : (s : NumberSet) → Word s → set_of (set_field s) ≡ s
set_read s w =
    ⊎_elim
    (λ t. ap set_of (cond-true (is_empty s) [] (bytes_of s) t) ∙ ap (λ n. let t : NumberSet = record { bits = n } in t) (sym (eqb-true _ _ t)))
    (λ t. ap set_of (cond-false (is_empty s) [] (bytes_of s) t) ∙ set_of_bytes s w)
    (cases_Bool (is_empty s))

stood_set : (c : Records) (f : Field) (s : NumberSet) → width f ≡ 8 → Word s → (is_empty s ≡ false → wrong c f (bytes_of s) ≡ None) → Stood c f (set_field s)
stood_set c f s e w n =
    ⊎_elim
    (λ t. inl (cond-true (is_empty s) [] (bytes_of s) t))
    (λ t.
    let q = cond-false (is_empty s) [] (bytes_of s) t in
    subst (Stood c f) (sym q) (inr (length_bytes 8 s.bits ∙ sym e, (bytes_under 8 s.bits, n t))))
    (cases_Bool (is_empty s))

-- a set of operations
pub operations_back : (c : Records) (b : List ℕ) → Stood c operations b → (set_field (set_of b) ≡ b) × Word (set_of b)
operations_back c b (inl e) = (set_back b (inl e), subst (λ b. Word (set_of b)) (sym e) word_of_none)
operations_back c b (inr p) = (set_back b (inr (p.0, p.1.0, empty_none _ p.1.1)), word_of_bytes b p.0 p.1.0)

pub operations_stood : (c : Records) (s : NumberSet) → Word s → Stood c operations (set_field s)
operations_stood c s w =
    stood_set c operations s refl w (λ t. ap (λ s. cond (is_empty s) (Some Empty) None) (set_of_bytes s w) ∙ ap (λ x. cond x (Some Empty) None) t)

-- a set of numbers of records
pub names_back : (c : Records) (k : Phase) (b : List ℕ) → Stood c (names k) b → (set_field (set_of b) ≡ b) × Declared c k (set_of b)
names_back c k b (inl e) = (
  set_back b (inl e),
  subst (λ b. Declared c k (set_of b)) (sym e) (word_of_none, λ i h. absurd (none i h)),
)
  where
    none : (i : ℕ) → In i (set_of []) → ⊥
    none i h = let l = (below 0 0).0 (omega arith) i h in omega arith
names_back c k b (inr p) =
    let t = both_none (is_empty (set_of b)) (is_below (count k c) (set_of b)) p.1.1 in
    let w = word_of_bytes b p.0 p.1.0 in
    (set_back b (inr (p.0, p.1.0, t.0)), (w, (below (count k c) (number_from_digits 256 b)).0 (ltb-true _ _ t.1)))

pub names_stood : (c : Records) (k : Phase) (s : NumberSet) → Declared c k s → Stood c (names k) (set_field s)
names_stood c k s d =
    let h = lt-ltb s.bits (2 ^ count k c) ((below (count k c) s.bits).1 d.1) in
    stood_set c (names k) s refl d.0
    (λ t.
    ap (λ s. cond (is_empty s) (Some Empty) (cond (is_below (count k c) s) None (Some Undeclared))) (set_of_bytes s d.0)
    ∙ ap₂ (λ x y. cond x (Some Empty) (cond y None (Some Undeclared))) t h)

-- ---- single bytes

one : (b : List ℕ) → length b ≡ 1 → get_or b 0 0 ∷ [] ≡ b
one [] l = absurd (omega arith)
one (x ∷ []) l = refl
one (x ∷ y ∷ b) l = absurd (omega arith)

pub controlled_back : (c : Records) (b : List ℕ) → Stood c controlled b → 0 < length b → (get_or b 0 0 ∷ [] ≡ b) × (get_or b 0 0 < count Types c)
controlled_back c b (inl e) l = absurd (let z = ap length e in omega arith)
controlled_back c b (inr p) l = (one b p.0, ltb-true _ _ (below_none _ p.1.1))

pub controlled_stood : (c : Records) (n : ℕ) → n < count Types c → n < 256 → Stood c controlled (n ∷ [])
controlled_stood c n l s = inr (refl, ((s, tt), ap (λ x. cond x None (Some Undeclared)) (lt-ltb n (count Types c) l)))

pub modifiers_back : (c : Records) (b : List ℕ) → Stood c modifiers b → (byte_field (get_or b 0 0) ≡ b) × (get_or b 0 0 ≤ 7)
modifiers_back c b (inl e) = subst (λ b. (byte_field (get_or b 0 0) ≡ b) × (get_or b 0 0 ≤ 7)) (sym e) (refl, omega arith)
modifiers_back c b (inr p) =
    let t = both_none (eqb (get_or b 0 0) 0) (leb (get_or b 0 0) 7) p.1.1 in
    (cond-false (eqb (get_or b 0 0) 0) [] (get_or b 0 0 ∷ []) t.0 ∙ one b p.0, leb-true _ _ t.1)

pub modifiers_stood : (c : Records) (n : ℕ) → n ≤ 7 → Stood c modifiers (byte_field n)
modifiers_stood c n l =
    ⊎_elim
    (λ t. inl (cond-true (eqb n 0) [] (n ∷ []) t))
    (λ t.
    subst (Stood c modifiers) (sym (cond-false (eqb n 0) [] (n ∷ []) t))
    (inr (refl, ((omega arith, tt), ap₂ (λ x y. cond x (Some Empty) (cond y None (Some Undeclared))) t (le-leb n 7 l)))))
    (cases_Bool (eqb n 0))

pub modifiers_read : (n : ℕ) → get_or (byte_field n) 0 0 ≡ n
modifiers_read n =
    ⊎_elim
    (λ t. ap (λ b. get_or b 0 0) (cond-true (eqb n 0) [] (n ∷ []) t) ∙ sym (eqb-true n 0 t))
    (λ t. ap (λ b. get_or b 0 0) (cond-false (eqb n 0) [] (n ∷ []) t))
    (cases_Bool (eqb n 0))

-- ---- two sets in one field

pub denials_back : (c : Records) (b : List ℕ) → Stood c denials b
    → (pair_field (set_of (take 8 b)) (set_of (drop 8 b)) ≡ b) × Word (set_of (take 8 b)) × Word (set_of (drop 8 b))
denials_back c b (inl e) =
    subst (λ b. (pair_field (set_of (take 8 b)) (set_of (drop 8 b)) ≡ b) × Word (set_of (take 8 b)) × Word (set_of (drop 8 b))) (sym e) (refl, word_of_none, word_of_none)
denials_back c b (inr p) =
    let l = p.0 in
    let lt = length-take-le 8 b (omega arith) in
    let ld = length-drop 8 b in
    let ut = All-take (λ d. d < 256) 8 b p.1.0 in
    let ud = All-drop (λ d. d < 256) 8 b p.1.0 in
    let e : length (drop 8 b) ≡ 8 = omega arith in (
      cond-false (is_empty (set_of (take 8 b)) && is_empty (set_of (drop 8 b))) [] _ (empty_none _ p.1.1)
          ∙ ap₂ (λ x y. x ++ y) (bytes_of_set (take 8 b) lt ut) (bytes_of_set (drop 8 b) e ud)
          ∙ take-append-drop 8 b,
      word_of_bytes (take 8 b) lt ut,
      word_of_bytes (drop 8 b) e ud,
    )

-- the two halves of sixteen bytes
front : (s t : NumberSet) → take 8 (bytes_of s ++ bytes_of t) ≡ bytes_of s
front s t = take_at (bytes_of s) (bytes_of t) 8 (length_bytes 8 s.bits)

back : (s t : NumberSet) → drop 8 (bytes_of s ++ bytes_of t) ≡ bytes_of t
back s t = drop_at (bytes_of s) (bytes_of t) 8 (length_bytes 8 s.bits)

pub denials_stood : (c : Records) (s t : NumberSet) → Word s → Word t → Stood c denials (pair_field s t)
denials_stood c s t v w =
    let ls = length_bytes 8 s.bits in
    let lt = length_bytes 8 t.bits in
    ⊎_elim
    (λ x. inl (cond-true (is_empty s && is_empty t) [] (bytes_of s ++ bytes_of t) x))
    (λ x.
    subst (Stood c denials) (sym (cond-false (is_empty s && is_empty t) [] (bytes_of s ++ bytes_of t) x))
    (inr (
      length-append (bytes_of s) (bytes_of t) ∙ omega arith,
      (
        All-append (λ d. d < 256) (bytes_of s) (bytes_of t) (bytes_under 8 s.bits) (bytes_under 8 t.bits),
        ap₂ (λ a b. cond (is_empty (set_of a) && is_empty (set_of b)) (Some Empty) None) (front s t) (back s t)
            ∙ ap₂ (λ a b. cond (is_empty a && is_empty b) (Some Empty) None) (set_of_bytes s v) (set_of_bytes t w)
            ∙ ap (λ y. cond y (Some Empty) None) x,
      ),
    )))
    (cases_Bool (is_empty s && is_empty t))

pub denials_read : (s t : NumberSet) → Word s → Word t → (set_of (take 8 (pair_field s t)) ≡ s) × (set_of (drop 8 (pair_field s t)) ≡ t)
denials_read s t v w =
    ⊎_elim
    (λ x.
    let e = cond-true (is_empty s && is_empty t) [] (bytes_of s ++ bytes_of t) x in
    let p = and_parts (is_empty s) (is_empty t) x in (
      ap (λ b. set_of (take 8 b)) e ∙ ap (λ n. let t : NumberSet = record { bits = n } in t) (sym (eqb-true _ _ p.0)),
      ap (λ b. set_of (drop 8 b)) e ∙ ap (λ n. let t : NumberSet = record { bits = n } in t) (sym (eqb-true _ _ p.1)),
    ))
    (λ x.
    let e = cond-false (is_empty s && is_empty t) [] (bytes_of s ++ bytes_of t) x in
    (ap (λ b. set_of (take 8 b)) e ∙ ap set_of (front s t) ∙ set_of_bytes s v, ap (λ b. set_of (drop 8 b)) e ∙ ap set_of (back s t) ∙ set_of_bytes t w))
    (cases_Bool (is_empty s && is_empty t))
