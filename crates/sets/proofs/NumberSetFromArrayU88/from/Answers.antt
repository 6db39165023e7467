use Rattle.std.proofs.Common.{◌≡◌, ℕ, ◌+◌, ◌-◌, ◌*◌, ◌/◌, ◌%◌, ◌^◌, ◌<◌, List, [], ◌∷◌, length, get_or, sym, ap, ◌∙◌, subst, arith, w8, Fits, rules}
use Rattle.std.specs.Int.Digits.{number_from_digits, AllBelowBase}
use Rattle.std.proofs.ByRecursion.{All-from_get_or}
use Rattle.sets.specs.declared.NumberSet.{NumberSet}
use Rattle.sets.specs.Members.{Bit, Iff}
use Rattle.sets.proofs.ByteValues.{members_of_bytes}
use Rattle.sets.proofs.NumberSetFromArrayU88.from.Goals as goal

-- the number that eight bytes make, written out
written_out : (ds : List ℕ) → length ds ≡ 8
    → number_from_digits 256 ds
    ≡ get_or ds 0 0 * 2 ^ 56 + get_or ds 1 0 * 2 ^ 48 + get_or ds 2 0 * 2 ^ 40 + get_or ds 3 0 * 2 ^ 32 + get_or ds 4 0 * 2 ^ 24 + get_or ds 5 0 * 2 ^ 16 + get_or ds 6 0 * 2 ^ 8 + get_or ds 7 0
written_out [] l = absurd (omega arith)
written_out (a ∷ []) l = absurd (omega arith)
written_out (a ∷ b ∷ []) l = absurd (omega arith)
written_out (a ∷ b ∷ c ∷ []) l = absurd (omega arith)
written_out (a ∷ b ∷ c ∷ d ∷ []) l = absurd (omega arith)
written_out (a ∷ b ∷ c ∷ d ∷ e ∷ []) l = absurd (omega arith)
written_out (a ∷ b ∷ c ∷ d ∷ e ∷ f ∷ []) l = absurd (omega arith)
written_out (a ∷ b ∷ c ∷ d ∷ e ∷ f ∷ g ∷ []) l = absurd (omega arith)
written_out (a ∷ b ∷ c ∷ d ∷ e ∷ f ∷ g ∷ h ∷ []) l = omega arith
written_out (a ∷ b ∷ c ∷ d ∷ e ∷ f ∷ g ∷ h ∷ i ∷ ds) l = absurd (omega arith)

pub returns : goal.returns
returns c =
    let ds = c.args.bytes in
    let l : length ds ≡ 8 = search rules in
    let fit : (i : ℕ) → Fits w8 (get_or ds i 0) = λ i. search rules in
    let u : AllBelowBase 256 ds = All-from_get_or (λ d. d < 256) ds 0 (λ i _. (fit i).fits) in
    let e : c.from_be_bytes.result ≡ number_from_digits 256 ds = c.from_be_bytes.ensures ∙ sym (written_out ds l) in (
      ap (λ n. let s : NumberSet = record { bits = n } in s) e,
      λ k. subst (λ n. Iff (Bit k n) ((k < 64) × Bit (k % 8) (get_or ds (7 - k / 8) 0))) (sym e) (members_of_bytes ds u l k),
    )
