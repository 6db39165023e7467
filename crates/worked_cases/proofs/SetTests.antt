-- Tests on sets of numbers below 64, each given as a number.
use Rattle.std.proofs.Common.{◌≡◌, ℕ, zero, suc, ◌/◌, ◌%◌, ◌^◌, ◌<◌, Bool, true, false, cond, not, eqb, refl, subst, inl, inr, ⊎_elim, w64, arith, pow_pos}
use mathlib.Core.Logic.{∥∥₁_elim, ∥∥₁_map}
use mathlib.Core.HLevel.{⊥_prop}
use native.Mathlib.Nat.{ℕ_set}
use lib.Bits.{bit_and, bit_or, and_lt, or_lt}
use lib.Count.{count_trailing_zeros}
use Rattle.std.proofs.lemmas.Bool.{cases_eq}
use Rattle.std.proofs.lemmas.Nat.Bits.{bit_at-trailing_zeros}
use Rattle.sets.specs.Members.{Bit, Iff}
use Rattle.sets.proofs.Membership as member
use Rattle.views.specs.Some.{Exists}
use Rattle.worked_cases.proofs.Telling.{Tells, tells_also, tells_not, tells_equal}

-- number k is in the set
abbrev pub has : ℕ → ℕ → Bool
has k s = eqb (s / 2 ^ k % 2) 1

pub tells_has : (k s : ℕ) → Tells (has k s) (Bit k s)
tells_has k s = tells_equal (s / 2 ^ k % 2) 1

-- all of the first is in the second
abbrev pub within : ℕ → ℕ → Bool
within a b = eqb (bit_and a b) a

pub tells_within : (a b : ℕ) → a < 2 ^ 64 → b < 2 ^ 64 → Tells (within a b) ((k : ℕ) → Bit k a → Bit k b)
tells_within a b l m = tells_also (member.subset a b) (tells_equal (bit_and a b) a)

-- nothing is in the set
abbrev pub bare : ℕ → Bool
bare a = eqb a 0

pub tells_bare : (a : ℕ) → a < 2 ^ 64 → Tells (bare a) ((k : ℕ) → Bit k a → ⊥)
tells_bare a l = tells_also (λ e k h. member.not_in_none k (subst (Bit k) e h), member.empty a) (tells_equal a 0)

-- something is in the set
pub tells_inhabited : (a : ℕ) → a < 2 ^ 64 → Tells (not (bare a)) (Exists (λ k. Bit k a))
tells_inhabited a l =
    tells_also (
      λ n. let t = bit_at-trailing_zeros w64 a (let p : a ≡ 0 → ⊥ = λ e. n (λ k h. member.not_in_none k (subst (Bit k) e h)) in omega (arith, p)) l in ∣ (count_trailing_zeros 64 a, t.1) ∣₁,
      λ p h. ∥∥₁_elim p ⊥_prop (λ s. h s.0 s.1),
    )
    (tells_not (tells_bare a l))

-- nothing is in both
abbrev pub apart : ℕ → ℕ → Bool
apart a b = bare (bit_and a b)

pub tells_apart : (a b : ℕ) → a < 2 ^ 64 → b < 2 ^ 64 → Tells (apart a b) ((k : ℕ) → Bit k a → Bit k b → ⊥)
tells_apart a b l m =
    tells_also (λ h k x y. h k ((member.in_and k a b).1 (x, y)), λ h k x. let p = (member.in_and k a b).0 x in h k p.0 p.1)
    (tells_bare (bit_and a b) (and_lt 64 a b l m))

-- something is in both
pub tells_meet : (a b : ℕ) → a < 2 ^ 64 → b < 2 ^ 64 → Tells (not (apart a b)) (Exists (λ k. Bit k a × Bit k b))
tells_meet a b l m =
    tells_also (λ p. ∥∥₁_map p (λ s. (s.0, (member.in_and s.0 a b).0 s.1)), λ p. ∥∥₁_map p (λ s. (s.0, (member.in_and s.0 a b).1 s.1)))
    (tells_inhabited (bit_and a b) (and_lt 64 a b l m))

-- ---- what the members of a set carry

-- all that is carried by those below n that are in the set
abbrev pub gathered : ℕ → ℕ → (ℕ → ℕ) → ℕ
gathered zero row carried = 0
gathered (suc n) row carried = bit_or (gathered n row carried) (cond (has n row) (carried n) 0)

if_had : (b : Bool) (P : Type 0) (k x : ℕ) → Tells b P → Iff (Bit k (cond b x 0)) (P × Bit k x)
if_had true P k x t = (λ h. (t.decides.0 refl, h), λ p. p.1)
if_had false P k x t = (λ h. absurd (member.not_in_none k h), λ p. absurd (cc (t.decides.1 p.0)))

pub in_gathered : (n row : ℕ) (carried : ℕ → ℕ) (k : ℕ) → Iff (Bit k (gathered n row carried)) (Exists (λ s. (s < n) × Bit s row × Bit k (carried s)))
in_gathered zero row carried k = (λ h. absurd (member.not_in_none k h), λ p. ∥∥₁_elim p (ℕ_set _ _) (λ s. let l = s.1.0 in absurd (omega arith)))
in_gathered (suc n) row carried k =
    let o = member.in_or k (gathered n row carried) (cond (has n row) (carried n) 0) in
    let i = if_had (has n row) (Bit n row) k (carried n) (tells_has n row) in
    let r = in_gathered n row carried k in (
      λ h.
          ⊎_elim
          (λ q. ∥∥₁_map (r.0 q) (λ s. (s.0, (omega (arith, s.1.0), s.1.1, s.1.2))))
          (λ q. let p = i.0 q in ∣ (n, (omega arith, p.0, p.1)) ∣₁)
          (o.0 h),
      λ p.
          ∥∥₁_elim p (ℕ_set _ _)
          (λ s.
          ⊎_elim
          (λ e. o.1 (inr (i.1 (subst (λ x. Bit x row) e s.1.1, subst (λ x. Bit k (carried x)) e s.1.2))))
          (λ e. o.1 (inl (r.1 ∣ (s.0, (omega (arith, e, s.1.0), s.1.1, s.1.2)) ∣₁)))
          (cases_eq s.0 n)),
    )

if_small : (b : Bool) (x : ℕ) → x < 2 ^ 64 → cond b x 0 < 2 ^ 64
if_small true x l = l
if_small false x l = pow_pos 64

pub gathered_small : (n row : ℕ) (carried : ℕ → ℕ) → ((s : ℕ) → carried s < 2 ^ 64) → gathered n row carried < 2 ^ 64
gathered_small zero row carried h = pow_pos 64
gathered_small (suc n) row carried h = or_lt 64 (gathered n row carried) (cond (has n row) (carried n) 0) (gathered_small n row carried h) (if_small (has n row) (carried n) (h n))
