-- The members of a set, as a list in rising order.
use Rattle.std.proofs.Common.{◌≡◌, ◌≢◌, ℕ, zero, suc, ◌+◌, ◌<◌, ◌≤◌, ◌^◌, Bool, true, false, [], ◌∷◌, refl, ap, ◌∙◌, ⊎_elim, arith}
use Rattle.std.specs.List.{range_with_len, filter, Contains}
use Rattle.std.proofs.lemmas.Bool.{cases_eq, eqb-true, eq-eqb, false_from_ne_true, cases_Bool}
use Rattle.std.proofs.lemmas.Bool.Decides.{same_from_decides, Decides-eqb, Decides-like}
use Rattle.std.proofs.lemmas.List.Elements.{All-contains, Contains-append_right, filter_passes}
use Rattle.sets.proofs.Membership.{below}
use Rattle.sets.specs.declared.NumberSet.{NumberSet}
use Rattle.sets.specs.Members.{In, Iff, has, members}

module _ (p : ℕ → Bool) where
  -- where no number passes, none is left
  pub none_pass : (a n : ℕ) → ((k : ℕ) → p k ≡ false) → filter p (range_with_len a n) ≡ []
  none_pass a zero h = refl
  none_pass a (suc n) h = rw (h a) (none_pass (a + 1) n h)

  -- two tests that agree from a on leave the same
  agreed : (q : ℕ → Bool) (a n : ℕ) → ((k : ℕ) → a ≤ k → q k ≡ p k) → filter q (range_with_len a n) ≡ filter p (range_with_len a n)
  agreed q a zero h = refl
  agreed q a (suc n) h = rw (h a (omega arith), agreed q (a + 1) n (λ k l. h k (omega arith))) refl

  -- the first number that passes, and behind it those that pass a test that leaves it out
  pub first_passes : (q : ℕ → Bool) (a n i : ℕ) → a ≤ i → i < a + n → ((k : ℕ) → k < i → p k ≡ false) → p i ≡ true → q i ≡ false → ((k : ℕ) → k ≢ i → q k ≡ p k)
      → filter p (range_with_len a n) ≡ i ∷ filter q (range_with_len a n)
  first_passes q a zero i l m before here gone same = absurd (omega arith)
  first_passes q a (suc n) i l m before here gone same =
      ⊎_elim
      (λ e. let y : p a ≡ true = ap p e ∙ here in let z : q a ≡ false = ap q e ∙ gone in rw (y, z, agreed q (a + 1) n (λ k b. same k (λ f. absurd (omega (arith, e, f))))) (ap (λ k. k ∷ filter p (range_with_len (a + 1) n)) e))
      (λ d. let y : p a ≡ false = before a (omega (arith, d)) in let z : q a ≡ false = same a d ∙ y in rw (y, z) (first_passes q (a + 1) n i (omega (arith, d)) (omega arith) before here gone same))
      (cases_eq a i)

untrue : (s : NumberSet) (k : ℕ) → (In k s → ⊥) → has s k ≡ false
untrue s k h = false_from_ne_true (has s k) (λ e. h (eqb-true _ _ e))

pub members_none : (s : NumberSet) → ((k : ℕ) → In k s → ⊥) → members s ≡ []
unfolding members
members_none s h = none_pass (has s) 0 64 (λ k. untrue s k (h k))

pub members_first : (s t : NumberSet) (i : ℕ) → i < 64 → In i s → ((k : ℕ) → k < i → In k s → ⊥) → ((k : ℕ) → Iff (In k t) (In k s × (k ≢ i))) → members s ≡ i ∷ members t
unfolding members
members_first s t i l m low h =
    first_passes (has s) (has t) 0 64 i (omega arith) (omega arith) (λ k b. untrue s k (low k b)) (eq-eqb _ _ m) (untrue t i (λ b. ((h i).0 b).1 refl))
    (λ k n. same_from_decides _ _ (Decides-like _ (λ b. ((h k).0 b).0) (λ b. (h k).1 (b, n)) (Decides-eqb _ 1)) (Decides-eqb _ 1))

-- a number that passes is among those that are left
passes_there : (p : ℕ → Bool) (a n k : ℕ) → a ≤ k → k < a + n → p k ≡ true → Contains (filter p (range_with_len a n)) k
passes_there p a zero k l m h = absurd (omega arith)
passes_there p a (suc n) k l m h =
    ⊎_elim
    (λ e. let y : p a ≡ true = ap p e ∙ h in rw y (0, omega arith, e))
    (λ d.
    let rest = passes_there p (a + 1) n k (omega (arith, d)) (omega arith) h in
    ⊎_elim
    (λ y. rw y (Contains-append_right (a ∷ []) (filter p (range_with_len (a + 1) n)) k rest))
    (λ y. rw y rest)
    (cases_Bool (p a)))
    (cases_eq a k)

pub member_of : (s : NumberSet) (k : ℕ) → Contains (members s) k → In k s
unfolding members
member_of s k h = eqb-true _ _ (All-contains (λ x. has s x ≡ true) (members s) k (filter_passes (has s) (range_with_len 0 64)) h)

pub members_has : (s : NumberSet) (k : ℕ) → s.bits < 2 ^ 64 → In k s → Contains (members s) k
unfolding members
members_has s k l h = passes_there (has s) 0 64 k (omega arith) ((below 64 s.bits).0 l k h) (eq-eqb _ _ h)
