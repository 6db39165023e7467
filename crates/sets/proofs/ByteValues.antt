-- Numbers and their bytes, the highest first.
use Rattle.std.proofs.Common.{◌≡◌, ℕ, zero, suc, ◌+◌, ◌-◌, ◌*◌, ◌/◌, ◌%◌, ◌^◌, ◌<◌, ◌≤◌, List, [], ◌∷◌, ◌++◌, length, get_or, take, sym, refl, ap, ◌∙◌, subst, ⊎_elim, pow-suc, add-one, arith}
use Rattle.std.specs.Int.Digits.{number_from_digits, AllBelowBase}
use Rattle.std.proofs.lemmas.Nat.{div-mul-add, mod-mul-add}
use Rattle.std.proofs.lemmas.Nat.Bits.{bit_at_cat_low, bit_at_cat_high}
use Rattle.std.proofs.lemmas.Int.Digits.{number_push, number_more}
use Rattle.std.proofs.ByRecursion.{All-get_or, All-push}
use Rattle.std.proofs.lemmas.List.{take_more, take_all, length_push}
use Rattle.std.proofs.lemmas.Bool.{cases_lt}
use Rattle.sets.specs.Members.{Bit, Iff}
use Rattle.sets.specs.Bytes.{bytes_in}
use Rattle.sets.proofs.Membership.{not_in_none}

-- the bits of a number with one more byte at its low end: those of the byte
low_byte : (k x b : ℕ) → b < 256 → k < 8 → Iff (Bit k (x * 256 + b)) (Bit k b)
low_byte k x b l h = let e = bit_at_cat_low x 8 b k h in (λ i. sym e ∙ i, λ i. e ∙ i)

-- and above them those of the number, eight higher
high_byte : (k x b : ℕ) → b < 256 → 8 ≤ k → Iff (Bit k (x * 256 + b)) (Bit (k - 8) x)
high_byte k x b l h = let e = bit_at_cat_high x 8 b k l h in (λ i. sym e ∙ i, λ i. e ∙ i)

-- bit k of a number stands in the byte k / 8 from the end
bits_of_bytes : (ds : List ℕ) → AllBelowBase 256 ds → (i : ℕ) → i ≤ length ds → (k : ℕ)
    → Iff (Bit k (number_from_digits 256 (take i ds))) ((k < 8 * i) × Bit (k % 8) (get_or ds (i - 1 - k / 8) 0))
bits_of_bytes ds u zero l k = (λ h. absurd (not_in_none k h), λ h. absurd (omega arith))
bits_of_bytes ds u (suc i) l k =
    let b = get_or ds i 0 in
    let small : b < 256 = All-get_or (λ d. d < 256) ds i 0 l u in
    let x = number_from_digits 256 (take i ds) in
    let e : number_from_digits 256 (take (suc i) ds) ≡ x * 256 + b = ap (λ m. number_from_digits 256 (take m ds)) (sym (add-one i)) ∙ number_more 256 ds i l in
    ⊎_elim
    (λ lo.
    let at : suc i - 1 - k / 8 ≡ i = omega arith in
    let low : k % 8 ≡ k = omega arith in
    let t = low_byte k x b small lo in (
      λ h. (omega arith, subst (λ m. Bit (k % 8) (get_or ds m 0)) (sym at) (subst (λ m. Bit m b) (sym low) (t.0 (subst (Bit k) e h)))),
      λ h. subst (Bit k) (sym e) (t.1 (subst (λ m. Bit m b) low (subst (λ m. Bit (k % 8) (get_or ds m 0)) at h.1))),
    ))
    (λ hi.
    let at : suc i - 1 - k / 8 ≡ i - 1 - (k - 8) / 8 = omega arith in
    let low : k % 8 ≡ (k - 8) % 8 = omega arith in
    let t = high_byte k x b small hi in
    let r = bits_of_bytes ds u i (omega arith) (k - 8) in (
      λ h. let p = r.0 (t.0 (subst (Bit k) e h)) in
          let q = p.0 in
          (omega arith, subst (λ m. Bit (k % 8) (get_or ds m 0)) (sym at) (subst (λ m. Bit m (get_or ds (i - 1 - (k - 8) / 8) 0)) (sym low) p.1)),
      λ h. let q = h.0 in
          subst (Bit k) (sym e) (t.1 (r.1 (omega arith, subst (λ m. Bit m (get_or ds (i - 1 - (k - 8) / 8) 0)) low (subst (λ m. Bit (k % 8) (get_or ds m 0)) at h.1)))),
    ))
    (cases_lt k 8)

-- the members of the set that eight bytes stand for
pub members_of_bytes : (ds : List ℕ) → AllBelowBase 256 ds → length ds ≡ 8 → (k : ℕ)
    → Iff (Bit k (number_from_digits 256 ds)) ((k < 64) × Bit (k % 8) (get_or ds (7 - k / 8) 0))
members_of_bytes ds u l k =
    subst (λ m. Iff (Bit k (number_from_digits 256 m)) ((k < 64) × Bit (k % 8) (get_or ds (7 - k / 8) 0))) (take_all 8 ds (omega arith)) (bits_of_bytes ds u 8 (omega arith) k)

-- the bytes of a number are those that it was made of
back : (ds : List ℕ) → AllBelowBase 256 ds → (i : ℕ) → i ≤ length ds → bytes_in i (number_from_digits 256 (take i ds)) ≡ take i ds
back ds u zero l = refl
back ds u (suc i) l =
    let b = get_or ds i 0 in
    let small : b < 256 = All-get_or (λ d. d < 256) ds i 0 l u in
    let x = number_from_digits 256 (take i ds) in
    let e : number_from_digits 256 (take (suc i) ds) ≡ x * 256 + b = ap (λ m. number_from_digits 256 (take m ds)) (sym (add-one i)) ∙ number_more 256 ds i l in
    ap (bytes_in (suc i)) e
    ∙ ap (λ m. bytes_in i m ++ ((x * 256 + b) % 256 ∷ [])) (div-mul-add x 256 b small)
    ∙ ap (λ m. bytes_in i x ++ (m ∷ [])) (mod-mul-add x 256 b small)
    ∙ ap (λ m. m ++ (b ∷ [])) (back ds u i (omega arith))
    ∙ sym (take_more ds i 0 l) ∙ ap (λ m. take m ds) (add-one i)

pub bytes_back : (n : ℕ) (ds : List ℕ) → AllBelowBase 256 ds → length ds ≡ n → bytes_in n (number_from_digits 256 ds) ≡ ds
bytes_back n ds u l =
    let t = take_all n ds (omega arith) in
    ap (λ m. bytes_in n (number_from_digits 256 m)) (sym t) ∙ back ds u n (omega arith) ∙ t

-- a number is the one that its bytes make, if there are enough of them
pub number_back : (k n : ℕ) → n < 256 ^ k → number_from_digits 256 (bytes_in k n) ≡ n
number_back zero n l = omega arith
number_back (suc k) n l =
    let p = pow-suc 256 k in
    let q = number_back k (n / 256) (omega arith) in
    number_push 256 (bytes_in k (n / 256)) (n % 256) ∙ ap (λ m. m * 256 + n % 256) q ∙ omega arith

pub length_bytes : (k n : ℕ) → length (bytes_in k n) ≡ k
length_bytes zero n = refl
length_bytes (suc k) n = length_push (bytes_in k (n / 256)) (n % 256) ∙ ap (λ m. m + 1) (length_bytes k (n / 256)) ∙ add-one k

pub bytes_under : (k n : ℕ) → AllBelowBase 256 (bytes_in k n)
bytes_under zero n = tt
bytes_under (suc k) n = All-push (λ d. d < 256) (bytes_in k (n / 256)) (n % 256) (bytes_under k (n / 256)) (omega arith)
