-- How many bits of a number are set, as a list of them.
use Rattle.std.proofs.Common.{◌≡◌, ℕ, zero, suc, ◌/◌, ◌^◌, ◌<◌, ◌⊎◌, List, [], ◌∷◌, map, sym, refl, ap, ◌∙◌, subst, inl, inr, ⊎_elim, pow-suc, arith}
use lib.Count.{ones, ones_step}
use Rattle.std.proofs.lemmas.List.{length-map}
use Rattle.std.proofs.lemmas.Nat.Bits.{bit_at-suc}
use Rattle.sets.specs.Members.{Bit, Iff}
use Rattle.sets.specs.Counting.{Listed, Distinct, HowMany}
use Rattle.sets.proofs.Membership.{clear_or_set, not_in_none}

listed_up : (k : ℕ) (xs : List ℕ) → Listed k xs → Listed (suc k) (map suc xs)
listed_up k [] h = elim h [ ]
listed_up k (x ∷ xs) (inl e) = inl (ap suc e)
listed_up k (x ∷ xs) (inr h) = inr (listed_up k xs h)

listed_down : (k : ℕ) (xs : List ℕ) → Listed (suc k) (map suc xs) → Listed k xs
listed_down k [] h = elim h [ ]
listed_down k (x ∷ xs) (inl e) = inl (omega arith)
listed_down k (x ∷ xs) (inr h) = inr (listed_down k xs h)

no_zero : (xs : List ℕ) → Listed 0 (map suc xs) → ⊥
no_zero [] h = elim h [ ]
no_zero (x ∷ xs) (inl e) = omega arith
no_zero (x ∷ xs) (inr h) = no_zero xs h

distinct_up : (xs : List ℕ) → Distinct xs → Distinct (map suc xs)
distinct_up [] d = tt
distinct_up (x ∷ xs) d = (λ h. d.0 (listed_down x xs h), distinct_up xs d.1)

ones_zero : ones 0 ≡ 0
unfolding ones
ones_zero = refl

-- the set bits of s are those of s / 2, one higher, and bit 0 where s is odd
pub bits_counted : (n s : ℕ) → s < 2 ^ n → HowMany (λ k. Bit k s) (ones s)
bits_counted zero s l =
    let z : s ≡ 0 = omega arith in
    subst (λ s. HowMany (λ k. Bit k s) (ones s)) (sym z) ([], tt, λ k. (λ h. absurd h, λ h. not_in_none k h), sym ones_zero)
bits_counted (suc n) s l =
    let p = pow-suc 2 n in
    let half = bits_counted n (s / 2) (omega arith) in
    let xs = half.0 in
    let step = ones_step s in
    let size = length-map xs suc in
    let total = half.3 in
    let above : (j : ℕ) → Iff (Listed (suc j) (map suc xs)) (Bit (suc j) s) =
    λ j. let e = sym (bit_at-suc s j) in
    (λ h. sym e ∙ (half.2 j).0 (listed_down j xs h), λ h. listed_up j xs ((half.2 j).1 (e ∙ h))) in
    ⊎_elim
    (λ z. (
      map suc xs,
      distinct_up xs half.1,
      λ k. elim k as (λ k. Iff (Listed k (map suc xs)) (Bit k s)) [ zero ↦ (λ h. absurd (no_zero xs h), λ h. absurd (omega arith)) | suc j ↦ above j ],
      omega arith,
    ))
    (λ o. (
      0 ∷ map suc xs,
      (no_zero xs, distinct_up xs half.1),
      λ k. elim k as (λ k. Iff ((k ≡ 0) ⊎ Listed k (map suc xs)) (Bit k s)) [
        | zero ↦ (λ h. omega arith, λ h. inl refl)
        | suc j ↦ (λ h. ⊎_elim (λ e. absurd (omega arith)) (above j).0 h, λ h. inr ((above j).1 h))
      ],
      omega arith,
    ))
    (clear_or_set 0 s)
