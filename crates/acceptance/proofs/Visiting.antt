-- What holds of the members of a set, taken one after the other.
use Rattle.std.proofs.Common.{◌≡◌, ℕ, zero, suc, ◌+◌, ◌<◌, ◌≤◌, Bool, false, List, [], ◌∷◌, sym, refl, subst, ⊎_elim, arith, eq-eqb}
use Rattle.std.specs.List.{range_with_len, filter, Contains}
use Rattle.std.proofs.lemmas.Bool.{cases_eq, cases_Bool, both_ways}
use Rattle.std.proofs.lemmas.List.Elements.{Contains-append_right, Contains-append_cases}
use Rattle.sets.specs.declared.NumberSet.{NumberSet}
use Rattle.sets.specs.Members.{In, has, members}
use Rattle.sets.proofs.Rising.{member_of}
use Rattle.sets.proofs.Gathering.{lone, no_item}

-- no number before the first that passes does
before_first : (p : ℕ → Bool) (a n x : ℕ) (rest : List ℕ) → filter p (range_with_len a n) ≡ x ∷ rest → (k : ℕ) → a ≤ k → k < x → p k ≡ false
before_first p a zero x rest e k l m = cc
before_first p a (suc n) x rest e k l m =
    ⊎_elim
    (λ y. let f = rw y at e in let same : a ≡ x = cc in absurd (omega arith))
    (λ y. let f = rw y at e in ⊎_elim (λ q. subst (λ j. p j ≡ false) (sym q) y) (λ q. before_first p (a + 1) n x rest f k (omega (arith, q)) m) (cases_eq k a))
    (cases_Bool (p a))

lower_out : (s : NumberSet) (x : ℕ) (rest : List ℕ) → members s ≡ x ∷ rest → (k : ℕ) → k < x → In k s → ⊥
unfolding members
lower_out s x rest e k l h = both_ways (has s k) (before_first (has s) 0 64 x rest e k (omega arith) l) (eq-eqb _ _ h)

module _ (P : ℕ → Type 0) (over : List ℕ) where
  -- what is to come is of the list, and all else has the property
  pub record Visited (rest : List ℕ) : Type 0 where
    pub within : (k : ℕ) → Contains rest k → Contains over k
    pub done : (k : ℕ) → (Contains rest k → ⊥) → P k

  pub visited_more : (before rest : List ℕ) (x : ℕ) → before ≡ x ∷ rest → Visited before → P x → Visited rest
  visited_more before rest x e g p = record {
    within = λ k h. g.within k (subst (λ xs. Contains xs k) (sym e) (Contains-append_right (x ∷ []) rest k h));
    done = λ k n.
        ⊎_elim
        (λ q. subst P (sym q) p)
        (λ q. g.done k (λ h. ⊎_elim (λ o. q (lone x k o)) n (Contains-append_cases (x ∷ []) rest k (subst (λ xs. Contains xs k) e h))))
        (cases_eq k x);
  }

  pub visited_all : (rest : List ℕ) → rest ≡ [] → Visited rest → (k : ℕ) → P k
  visited_all rest e g k = g.done k (λ h. no_item k (subst (λ xs. Contains xs k) e h))

  -- the next to come is of the list
  pub visited_next : (before rest : List ℕ) (x : ℕ) → before ≡ x ∷ rest → Visited before → Contains over x
  visited_next before rest x e g = g.within x (subst (λ xs. Contains xs x) (sym e) (0, omega arith, refl))

  -- and all lower numbers have the property
  pub visited_lower : (s : NumberSet) (rest : List ℕ) (x : ℕ) → members s ≡ x ∷ rest → Visited (members s) → (k : ℕ) → k < x → P k
  visited_lower s rest x e g k l = g.done k (λ h. lower_out s x rest e k l (member_of s k h))
