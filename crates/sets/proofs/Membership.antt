-- The few laws of membership.
use Rattle.std.proofs.Common.{◌≡◌, ◌≢◌, ℕ, ◌+◌, ◌*◌, ◌/◌, ◌%◌, ◌^◌, ◌<◌, ◌≤◌, ◌⊎◌, sym, ap, ◌∙◌, subst, inl, inr, ⊎_elim, w64, arith}
use Rattle.std.specs.Int.{bit_not}
use Rattle.std.specs.Int.Bits.{bit_and, bit_or}
use Rattle.std.proofs.lemmas.Nat.{div-add-mod', pow_pos, shr-shr, mod_below, div_below, one_shl}
use Rattle.std.proofs.lemmas.Nat.Bits.{bit_at-lt, bit_at-zero, bit_at_and, bit_at_or, bit_at-pow_same, bit_at-pow_other, bit_at_above, bit_at_clear_same, bit_at_clear_other, same_from_bits}
use Rattle.std.proofs.lemmas.Bool.{cases_lt, cases_eq}
use Rattle.sets.specs.Members.{Bit, Iff}

-- each bit is set or not
pub clear_or_set : (k a : ℕ) → (a / 2 ^ k % 2 ≡ 0) ⊎ Bit k a
clear_or_set k a = let l = bit_at-lt a k in ⊎_elim (λ e. inr e) (λ e. inl (omega arith)) (cases_eq (a / 2 ^ k % 2) 1)

pub in_or : (k a b : ℕ) → Iff (Bit k (bit_or a b)) (Bit k a ⊎ Bit k b)
in_or k a b =
    let e = bit_at_or a b k in
    let l = bit_at-lt b k in
    (λ h. ⊎_elim (λ z. inr (omega arith)) inl (clear_or_set k a), λ h. let m = bit_at-lt a k in ⊎_elim (λ i. omega arith) (λ i. omega arith) h)

pub in_and : (k a b : ℕ) → Iff (Bit k (bit_and a b)) (Bit k a × Bit k b)
in_and k a b =
    let e = bit_at_and a b k in
    let l = bit_at-lt a k in
    let m = bit_at-lt b k in
    (λ h. (omega arith, omega arith), λ h. omega arith)

pub not_in_none : (k : ℕ) → Bit k 0 → ⊥
not_in_none k h = let e = bit_at-zero k in omega arith

pub in_one : (k i : ℕ) → Iff (Bit k (2 ^ i)) (k ≡ i)
in_one k i = (
  λ h. ⊎_elim (λ e. e) (λ n. absurd (let z = bit_at-pow_other i k n in omega arith)) (cases_eq k i),
  λ e. subst (λ j. Bit j (2 ^ i)) (sym e) (bit_at-pow_same i),
)

-- two numbers with the same bits are the same
pub ext : (a b : ℕ) → ((k : ℕ) → Iff (Bit k a) (Bit k b)) → a ≡ b
ext a b h =
    same_from_bits a b
    (λ k. ⊎_elim
    (λ z. ⊎_elim (λ y. omega arith) (λ y. absurd (let i = (h k).1 y in omega arith)) (clear_or_set k b))
    (λ i. let j = (h k).0 i in omega arith)
    (clear_or_set k a))

pub subset : (a b : ℕ) → Iff (bit_and a b ≡ a) ((k : ℕ) → Bit k a → Bit k b)
subset a b = (
  λ e k i. ((in_and k a b).0 (subst (Bit k) (sym e) i)).1,
  λ h. ext (bit_and a b) a (λ k. (λ i. ((in_and k a b).0 i).0, λ i. (in_and k a b).1 (i, h k i))),
)

pub empty : (a : ℕ) → ((k : ℕ) → Bit k a → ⊥) → a ≡ 0
empty a h = ext a 0 (λ k. (λ i. absurd (h k i), λ i. absurd (not_in_none k i)))

pub in_with : (k s i : ℕ) → i < 64 → Iff (Bit k (bit_or s ((1 * 2 ^ i) % 2 ^ 64))) (Bit k s ⊎ (k ≡ i))
in_with k s i l =
    let e = one_shl i 64 l in
    let o = in_or k s ((1 * 2 ^ i) % 2 ^ 64) in
    let n = in_one k i in
    (λ h. ⊎_elim inl (λ b. inr (n.0 (subst (Bit k) e b))) (o.0 h), λ h. o.1 (⊎_elim inl (λ q. inr (subst (Bit k) (sym e) (n.1 q))) h))

-- a number below 2 ^ n has no bit from n on
pub none_from : (n s k : ℕ) → s < 2 ^ n → n ≤ k → Bit k s → ⊥
none_from n s k l le h = let z = bit_at_above s n k l le in omega arith

-- shifting by n leaves nothing exactly where the number is below 2 ^ n
pub shifted_out : (n s : ℕ) → Iff (s / 2 ^ n ≡ 0) (s < 2 ^ n)
shifted_out n s = (
  λ e. let a = div-add-mod' s (2 ^ n) in let b = mod_below s (2 ^ n) (pow_pos n) in let c = ap (λ x. x * 2 ^ n) e in omega arith,
  λ l. let d = div_below s (2 ^ n) 1 (pow_pos n) (omega arith) in omega arith,
)

-- a number is below 2 ^ n exactly when each of its bits is
pub below : (n s : ℕ) → Iff (s < 2 ^ n) ((k : ℕ) → Bit k s → k < n)
below n s = (
  λ b k h. ⊎_elim (λ q. q) (λ q. absurd (none_from n s k b q h)) (cases_lt k n),
  λ h. (shifted_out n s).0 (empty (s / 2 ^ n) (λ j b. let i = h (n + j) (ap (λ x. x % 2) (sym (shr-shr s n j)) ∙ b) in omega arith)),
)

-- every bit but bit i
pub cleared : (k s i : ℕ) → s < 2 ^ 64 → i < 64 → Iff (Bit k (bit_and s (bit_not w64 (1 * 2 ^ i % 2 ^ 64)))) (Bit k s × (k ≢ i))
cleared k s i l m =
    ⊎_elim
    (λ e. (
      λ h. absurd (let z = bit_at_clear_same w64 s i m in let q = subst (λ j. Bit j (bit_and s (bit_not w64 (1 * 2 ^ i % 2 ^ 64)))) e h in omega arith),
      λ h. absurd (h.1 e),
    ))
    (λ n.
    ⊎_elim
    (λ b. let z = bit_at_clear_other w64 s i m k b n in (λ h. (sym z ∙ h, n), λ h. z ∙ h.0))
    (λ b. (
      λ h. absurd (none_from 64 s k l b ((in_and k s _).0 h).0),
      λ h. absurd (none_from 64 s k l b h.0),
    ))
    (cases_lt k 64))
    (cases_eq k i)
