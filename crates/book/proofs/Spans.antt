-- How many bytes the fields take that a map names, counted field by field.
use Rattle.std.proofs.Common.{◌≡◌, ℕ, ◌+◌, ◌/◌, ◌^◌, ◌<◌, ◌≤◌, Bool, true, false, cond, not, ◌&&◌, leb, List, [], ◌∷◌, map, length, get_or, drop, sym, refl, ap, ◌∙◌, ⊎_elim, one-add, arith}
use Rattle.std.proofs.lemmas.List.{at_drop_more, at_drop_all, length-map}
use Rattle.std.proofs.lemmas.Bool.{le-leb, lt-leb, or_left, or_right, or_from, cases_lt}
use Rattle.std.proofs.lemmas.Nat.{shr-shr}
use Rattle.sets.proofs.Membership.{shifted_out}
use Rattle.book.specs.declared.phase.Phase.{Phase}
use Rattle.book.specs.declared.phase.Phase.TheVariants.{Types, Roles, Groups, Views, Subjects}
use Rattle.book.specs.Layout.{Field, width, layout, needs_first}
use Rattle.book.specs.Form.{marked, span, unfit}

-- the same, by the widths alone
abbrev pub span_of : List ℕ → ℕ → ℕ
span_of [] m = 0
span_of (w ∷ ws) m = cond (marked m) w 0 + span_of ws (m / 2)

-- what is left of the map past the fields
abbrev pub past_of : List ℕ → ℕ → ℕ
past_of [] m = m
past_of (w ∷ ws) m = past_of ws (m / 2)

pub span_widths : (L : List Field) (m : ℕ) → span_of (map width L) m ≡ span L m
span_widths [] m = refl
span_widths (f ∷ L) m = ap (λ n. cond (marked m) (width f) 0 + n) (span_widths L (m / 2))

past_is : (ws : List ℕ) (m : ℕ) → past_of ws m ≡ m / 2 ^ length ws
past_is [] m = omega arith
past_is (w ∷ ws) m = past_is ws (m / 2) ∙ shr-shr m 1 (length ws) ∙ ap (λ n. m / 2 ^ n) (one-add (length ws))

at_most : (t : Bool) (w : ℕ) → cond t w 0 ≤ w
at_most true w = omega arith
at_most false w = omega arith

total : List ℕ → ℕ
total [] = 0
total (w ∷ ws) = w + total ws

span_total : (ws : List ℕ) (m : ℕ) → span_of ws m ≤ total ws
unfolding total
span_total [] m = omega arith
span_total (w ∷ ws) m = let a = at_most (marked m) w in let b = span_total ws (m / 2) in omega arith

-- no record has more than 58 bytes of fields
pub span_small : (p : Phase) (m : ℕ) → span_of (map width (layout p)) m ≤ 58
unfolding total
span_small Types m = let h = span_total (8 ∷ 8 ∷ []) m in omega arith
span_small Roles m = let h = span_total (8 ∷ []) m in omega arith
span_small Groups m = let h = span_total (8 ∷ 8 ∷ []) m in omega arith
span_small Views m = let h = span_total (1 ∷ 8 ∷ 8 ∷ 8 ∷ 1 ∷ 8 ∷ 8 ∷ 16 ∷ []) m in omega arith
span_small Subjects m = let h = span_total (8 ∷ []) m in omega arith

-- the fields before i are counted
pub record Counted (ws : List ℕ) (m i size left : ℕ) : Type 0 where
  pub sum : size + span_of (drop i ws) left ≡ span_of ws m
  pub rest : past_of (drop i ws) left ≡ past_of ws m

module _ (ws : List ℕ) (m : ℕ) where
  module _ (i size left : ℕ) (h : Counted ws m i size left) (l : i < length ws) where
    step : (t : Bool) → marked left ≡ t → size + (cond t (get_or ws i 0) 0 + span_of (drop (i + 1) ws) (left / 2)) ≡ span_of ws m
    step t e =
        ap (λ n. size + n) (sym (at_drop_more (λ ws. span_of ws left) ws i 0 l ∙ ap (λ t. cond t (get_or ws i 0) 0 + span_of (drop (i + 1) ws) (left / 2)) e)) ∙ h.sum

    past_step : past_of (drop (i + 1) ws) (left / 2) ≡ past_of ws m
    past_step = sym (at_drop_more (λ ws. past_of ws left) ws i 0 l) ∙ h.rest

    pub counted_more : marked left ≡ true → Counted ws m (i + 1) (size + get_or ws i 0) (left / 2)
    counted_more e = let s = step true e in record { sum = omega arith; rest = past_step }

    pub counted_pass : marked left ≡ false → Counted ws m (i + 1) size (left / 2)
    counted_pass e = let s = step false e in record { sum = omega arith; rest = past_step }

  pub counted_all : (i size left : ℕ) → Counted ws m i size left → length ws ≤ i → (size ≡ span_of ws m) × (left ≡ m / 2 ^ length ws)
  counted_all i size left h l =
      let a = h.sum in
      let b = at_drop_all (λ ws. span_of ws left) ws i l in
      (omega arith, sym (at_drop_all (λ ws. past_of ws left) ws i l) ∙ h.rest ∙ past_is ws m)

-- ---- a map that does not fit

pub unfit_past : (p : Phase) (m : ℕ) → 0 < m / 2 ^ length (map width (layout p)) → unfit p m ≡ true
unfit_past p m l =
    let e = length-map (layout p) width in
    let h = ap (λ n. m / 2 ^ n) e in
    or_left (leb (2 ^ length (layout p)) m) (needs_first p && not (marked m)) (le-leb (2 ^ length (layout p)) m (⊎_elim (λ b. absurd (let z = (shifted_out (length (layout p)) m).1 b in omega arith)) (λ b. b) (cases_lt m (2 ^ length (layout p)))))

pub unfit_first : (p : Phase) (m : ℕ) → (needs_first p && not (marked m)) ≡ true → unfit p m ≡ true
unfit_first p m e = or_right (leb (2 ^ length (layout p)) m) (needs_first p && not (marked m)) e

pub fits : (p : Phase) (m : ℕ) → m / 2 ^ length (map width (layout p)) ≡ 0 → (needs_first p && not (marked m)) ≡ false → unfit p m ≡ false
fits p m z e =
    let h = ap (λ n. m / 2 ^ n) (sym (length-map (layout p) width)) ∙ z in
    or_from (leb (2 ^ length (layout p)) m) (needs_first p && not (marked m)) (lt-leb (2 ^ length (layout p)) m ((shifted_out (length (layout p)) m).0 h)) e
