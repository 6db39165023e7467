-- The fields of a record in its bytes: cut apart, and put together again.
use Rattle.std.proofs.Common.{◌≡◌, ℕ, ◌+◌, ◌*◌, ◌/◌, ◌^◌, ◌<◌, ◌≤◌, Bool, true, false, cond, ◌⊎◌, List, [], ◌∷◌, ◌++◌, length, take, drop, Some, None, Option, sym, refl, ap, ◌∙◌, subst, ap₂, inl, inr, ⊎_elim, pow-suc, arith, take-add}
use Rattle.std.specs.Int.Digits.{AllBelowBase}
use Rattle.std.proofs.ByRecursion.{All-take, All-drop}
use Rattle.std.proofs.lemmas.List.{append_assoc, take_at, drop_at, length-append, length-take-le, length-drop}
use Rattle.std.proofs.lemmas.Bool.{eq-eqb, ne_eqb, eqb-true, eqb-false, cases_Bool}
use Rattle.book.specs.declared.refusal.Refusal.{Refusal}
use Rattle.book.specs.Layout.{Field, names, operations, controlled, modifiers, denials, width}
use Rattle.book.specs.declared.contents.Records.{Records}
use Rattle.book.specs.Encoding.{map_of, together}
use Rattle.book.specs.Form.{marked, span, pieces, wrong, or_else, first_wrong}

-- each field has no bytes, or as many as it is wide and of which Q holds
abbrev pub Fields : (Field → List ℕ → Type 0) → List Field → List (List ℕ) → Type 0
Fields Q [] [] = Unit {0}
Fields Q [] (b ∷ fs) = ⊥
Fields Q (f ∷ L) [] = ⊥
Fields Q (f ∷ L) (b ∷ fs) = ((b ≡ []) ⊎ ((length b ≡ width f) × Q f b)) × Fields Q L fs

-- the bytes of a field that is present are bytes, and nothing is wrong with them
abbrev pub Fine : Records → Field → List ℕ → Type 0
Fine c f b = AllBelowBase 256 b × (wrong c f b ≡ None)

width_pos : (f : Field) → 0 < width f
width_pos (names p) = omega arith
width_pos operations = omega arith
width_pos controlled = omega arith
width_pos modifiers = omega arith
width_pos denials = omega arith

present : (Q : Field → List ℕ → Type 0) (f : Field) (x : ℕ) (b : List ℕ)
    → ((x ∷ b ≡ []) ⊎ ((length (x ∷ b) ≡ width f) × Q f (x ∷ b))) → (length (x ∷ b) ≡ width f) × Q f (x ∷ b)
present Q f x b (inl e) = absurd (let z = ap length e in omega arith)
present Q f x b (inr p) = p

-- one bit of a map
marked_even : (m : ℕ) → marked (2 * m) ≡ false
marked_even m = ne_eqb _ _ (λ e. omega arith)

marked_odd : (m : ℕ) → marked (1 + 2 * m) ≡ true
marked_odd m = eq-eqb _ _ (omega arith)

map_some : (b : List ℕ) (fs : List (List ℕ)) → 0 < length b → map_of (b ∷ fs) ≡ 1 + 2 * map_of fs
map_some [] fs l = absurd (omega arith)
map_some (x ∷ b) fs l = refl

-- one field of each recursion
module _ (f : Field) (L : List Field) (m : ℕ) (bs : List ℕ) where
  pub pieces_at : (t : Bool) → marked m ≡ t → pieces (f ∷ L) m bs ≡ cond t (take (width f) bs) [] ∷ pieces L (m / 2) (cond t (drop (width f) bs) bs)
  pieces_at t e = ap (λ t. cond t (take (width f) bs) [] ∷ pieces L (m / 2) (cond t (drop (width f) bs) bs)) e

  pub span_at : (t : Bool) → marked m ≡ t → span (f ∷ L) m ≡ cond t (width f) 0 + span L (m / 2)
  span_at t e = ap (λ t. cond t (width f) 0 + span L (m / 2)) e

  pub first_at : (c : Records) (t : Bool) → marked m ≡ t
      → first_wrong c (f ∷ L) m bs ≡ or_else (cond t (wrong c f (take (width f) bs)) None) (first_wrong c L (m / 2) (cond t (drop (width f) bs) bs))
  first_at c t e = ap (λ t. or_else (cond t (wrong c f (take (width f) bs)) None) (first_wrong c L (m / 2) (cond t (drop (width f) bs) bs))) e

half_even : (m : ℕ) → 2 * m / 2 ≡ m
half_even m = omega arith

half_odd : (m : ℕ) → (1 + 2 * m) / 2 ≡ m
half_odd m = omega arith

module _ (Q : Field → List ℕ → Type 0) where
  -- the map of fields has no bit past them
  pub map_below : (L : List Field) (fs : List (List ℕ)) → Fields Q L fs → map_of fs < 2 ^ length L
  map_below [] [] g = omega arith
  map_below [] (b ∷ fs) g = absurd g
  map_below (f ∷ L) [] g = absurd g
  map_below (f ∷ L) ([] ∷ fs) g = let p = pow-suc 2 (length L) in let h = map_below L fs g.1 in omega arith
  map_below (f ∷ L) ((x ∷ b) ∷ fs) g = let p = pow-suc 2 (length L) in let h = map_below L fs g.1 in omega arith

  pub span_is : (L : List Field) (fs : List (List ℕ)) → Fields Q L fs → span L (map_of fs) ≡ length (together fs)
  span_is [] [] g = refl
  span_is [] (b ∷ fs) g = absurd g
  span_is (f ∷ L) [] g = absurd g
  span_is (f ∷ L) ([] ∷ fs) g =
      let m = map_of fs in
      let a = span_at f L (2 * m) [] false (marked_even m) in
      let h = ap (span L) (half_even m) in
      let i = span_is L fs g.1 in
      omega arith
  span_is (f ∷ L) ((x ∷ b) ∷ fs) g =
      let m = map_of fs in
      let a = span_at f L (1 + 2 * m) [] true (marked_odd m) in
      let h = ap (span L) (half_odd m) in
      let i = span_is L fs g.1 in
      let w = (present Q f x b g.0).0 in
      let l = length-append (x ∷ b) (together fs) in
      omega arith

  -- what is put together comes apart again
  pub pieces_back : (L : List Field) (fs : List (List ℕ)) (more : List ℕ) → Fields Q L fs → pieces L (map_of fs) (together fs ++ more) ≡ fs
  pieces_back [] [] more g = refl
  pieces_back [] (b ∷ fs) more g = absurd g
  pieces_back (f ∷ L) [] more g = absurd g
  pieces_back (f ∷ L) ([] ∷ fs) more g =
      let m = map_of fs in
      pieces_at f L (2 * m) (together fs ++ more) false (marked_even m)
      ∙ ap (λ k. [] ∷ pieces L k (together fs ++ more)) (half_even m)
      ∙ ap (λ r. [] ∷ r) (pieces_back L fs more g.1)
  pieces_back (f ∷ L) ((x ∷ b) ∷ fs) more g =
      let m = map_of fs in
      let bs = (x ∷ b) ++ together fs ++ more in
      let e : bs ≡ (x ∷ b) ++ (together fs ++ more) = append_assoc (x ∷ b) (together fs) more in
      let w = (present Q f x b g.0).0 in
      pieces_at f L (1 + 2 * m) bs true (marked_odd m)
      ∙ ap₂ (λ p r. p ∷ pieces L ((1 + 2 * m) / 2) r)
      (ap (take (width f)) e ∙ take_at (x ∷ b) (together fs ++ more) (width f) w)
      (ap (drop (width f)) e ∙ drop_at (x ∷ b) (together fs ++ more) (width f) w)
      ∙ ap (λ k. (x ∷ b) ∷ pieces L k (together fs ++ more)) (half_odd m)
      ∙ ap (λ r. (x ∷ b) ∷ r) (pieces_back L fs more g.1)

-- and nothing is wrong with fields of which each is fine
pub none_wrong : (c : Records) (L : List Field) (fs : List (List ℕ)) (more : List ℕ) → Fields (Fine c) L fs → first_wrong c L (map_of fs) (together fs ++ more) ≡ None
none_wrong c [] [] more g = refl
none_wrong c [] (b ∷ fs) more g = absurd g
none_wrong c (f ∷ L) [] more g = absurd g
none_wrong c (f ∷ L) ([] ∷ fs) more g =
    let m = map_of fs in
    first_at f L (2 * m) (together fs ++ more) c false (marked_even m)
    ∙ ap (λ k. first_wrong c L k (together fs ++ more)) (half_even m)
    ∙ none_wrong c L fs more g.1
none_wrong c (f ∷ L) ((x ∷ b) ∷ fs) more g =
    let m = map_of fs in
    let bs = (x ∷ b) ++ together fs ++ more in
    let e : bs ≡ (x ∷ b) ++ (together fs ++ more) = append_assoc (x ∷ b) (together fs) more in
    let p = present (Fine c) f x b g.0 in
    first_at f L (1 + 2 * m) bs c true (marked_odd m)
    ∙ ap₂ (λ p r. or_else (wrong c f p) (first_wrong c L ((1 + 2 * m) / 2) r))
    (ap (take (width f)) e ∙ take_at (x ∷ b) (together fs ++ more) (width f) p.0)
    (ap (drop (width f)) e ∙ drop_at (x ∷ b) (together fs ++ more) (width f) p.0)
    ∙ ap₂ (λ o k. or_else o (first_wrong c L k (together fs ++ more))) p.1.1 (half_odd m)
    ∙ none_wrong c L fs more g.1

-- where neither of two refusals is left, each is none
pub or_else_none : (o p : Option Refusal) → or_else o p ≡ None → (o ≡ None) × (p ≡ None)
or_else_none (Some r) p e = absurd (let z : ◌≡◌ {A = ℕ} 0 1 = cc in omega arith)
or_else_none None p e = (refl, e)

-- fields of which nothing is wrong are fine
pub fine_pieces : (c : Records) (L : List Field) (m : ℕ) (bs : List ℕ) → span L m ≤ length bs → AllBelowBase 256 bs → first_wrong c L m bs ≡ None
    → Fields (Fine c) L (pieces L m bs)
fine_pieces c [] m bs l u n = tt
fine_pieces c (f ∷ L) m bs l u n =
    ⊎_elim
    (λ t.
    let w = width f in
    let s = span_at f L m bs true t in
    let o = or_else_none _ _ (sym (first_at f L m bs c true t) ∙ n) in
    let len = length-drop w bs in
    subst (Fields (Fine c) (f ∷ L)) (sym (pieces_at f L m bs true t))
    (inr (length-take-le w bs (omega arith), (All-take (λ d. d < 256) w bs u, o.0)), fine_pieces c L (m / 2) (drop w bs) (omega arith) (All-drop (λ d. d < 256) w bs u) o.1))
    (λ t.
    let s = span_at f L m bs false t in
    subst (Fields (Fine c) (f ∷ L)) (sym (pieces_at f L m bs false t))
    (inl refl, fine_pieces c L (m / 2) bs (omega arith) u (sym (first_at f L m bs c false t) ∙ n)))
    (cases_Bool (marked m))

-- what is cut apart has the map that it was cut by
pub map_back : (L : List Field) (m : ℕ) (bs : List ℕ) → span L m ≤ length bs → m < 2 ^ length L → map_of (pieces L m bs) ≡ m
map_back [] m bs l h = omega arith
map_back (f ∷ L) m bs l h =
    let p = pow-suc 2 (length L) in
    ⊎_elim
    (λ t.
    let w = width f in
    let s = span_at f L m bs true t in
    let o = eqb-true _ _ t in
    let pos = width_pos f in
    let len = length-drop w bs in
    let tk = length-take-le w bs (omega arith) in
    let i = map_back L (m / 2) (drop w bs) (omega arith) (omega arith) in
    ap map_of (pieces_at f L m bs true t) ∙ map_some (take w bs) _ (omega arith) ∙ ap (λ k. 1 + 2 * k) i ∙ omega arith)
    (λ t.
    let s = span_at f L m bs false t in
    let o = eqb-false _ _ t in
    let i = map_back L (m / 2) bs (omega arith) (omega arith) in
    ap map_of (pieces_at f L m bs false t) ∙ ap (λ k. 2 * k) i ∙ omega arith)
    (cases_Bool (marked m))

-- and is, put together, what was cut
pub together_back : (L : List Field) (m : ℕ) (bs : List ℕ) → together (pieces L m bs) ≡ take (span L m) bs
together_back [] m bs = refl
together_back (f ∷ L) m bs =
    ⊎_elim
    (λ t.
    let w = width f in
    ap together (pieces_at f L m bs true t)
    ∙ ap (λ r. take w bs ++ r) (together_back L (m / 2) (drop w bs))
    ∙ sym (take-add w (span L (m / 2)) bs)
    ∙ ap (λ k. take k bs) (sym (span_at f L m bs true t)))
    (λ t.
    let s = span_at f L m bs false t in
    ap together (pieces_at f L m bs false t) ∙ together_back L (m / 2) bs ∙ ap (λ k. take k bs) (omega arith))
    (cases_Bool (marked m))
