-- What the members of a set bring together, taken one after the other.
use Rattle.std.proofs.Common.{◌≡◌, ℕ, ◌<◌, ◌^◌, ◌⊎◌, refl, List, [], ◌∷◌, zero, suc, inl, inr, sym, subst, ⊎_elim, arith}
use Rattle.std.specs.List.{Contains}
use Rattle.std.proofs.lemmas.List.Elements.{Contains-append_right, Contains-append_cases}
use mathlib.Core.Logic.{∥∥₁_elim, ∥∥₁_map}
use native.Mathlib.Nat.{ℕ_set}
use Rattle.sets.specs.declared.NumberSet.{NumberSet}
use Rattle.sets.specs.Members.{In, Iff, members}
use Rattle.sets.proofs.Rising.{member_of, members_has}

-- a list of one has that one alone
pub lone : (x c : ℕ) → Contains (x ∷ []) c → c ≡ x
lone x c (zero, l, e) = sym e
lone x c (suc k, l, e) = absurd (omega (arith, l))

pub no_item : (c : ℕ) → Contains [] c → ⊥
no_item c (k, l, e) = absurd (omega (arith, l))

module _ (R : ℕ → ℕ → Type 0) (start : NumberSet) (over : List ℕ) where
  -- all has what was there at the start, and what the numbers bring that are no longer to come
  pub record Gathered (rest : List ℕ) (all : NumberSet) : Type 0 where
    pub within : (c : ℕ) → Contains rest c → Contains over c
    pub sound : (k : ℕ) → In k all → In k start ⊎ ∥ ((c : ℕ) × Contains over c × R c k) ∥₁
    pub kept : (k : ℕ) → In k start → In k all
    pub taken : (c k : ℕ) → Contains over c → R c k → Contains rest c ⊎ In k all

  pub gathered_start : Gathered over start
  gathered_start = record { within = λ c h. h; sound = λ k h. inl h; kept = λ k h. h; taken = λ c k h r. inl h }

  pub gathered_more : (before rest : List ℕ) (x : ℕ) (all new from : NumberSet) → before ≡ x ∷ rest → Gathered before all → ((k : ℕ) → Iff (In k from) (R x k)) → ((k : ℕ) → Iff (In k new) (In k all ⊎ In k from)) → Gathered rest new
  gathered_more before rest x all new from e g f u =
      let there : Contains before x = subst (λ xs. Contains xs x) (sym e) (0, omega arith, refl) in
      record {
        within = λ c h. g.within c (subst (λ xs. Contains xs c) (sym e) (Contains-append_right (x ∷ []) rest c h));
        sound = λ k h. ⊎_elim (g.sound k) (λ b. inr ∣ (x, g.within x there, (f k).0 b) ∣₁) ((u k).0 h);
        kept = λ k h. (u k).1 (inl (g.kept k h));
        taken = λ c k h r.
            ⊎_elim
            (λ b. ⊎_elim (λ o. inr ((u k).1 (inr ((f k).1 (subst (λ y. R y k) (lone x c o) r))))) inl (Contains-append_cases (x ∷ []) rest c (subst (λ xs. Contains xs c) e b)))
            (λ b. inr ((u k).1 (inl b)))
            (g.taken c k h r);
      }

-- once no member is to come: what was there at the start, and what every member brings
pub gathered_all : (R : ℕ → ℕ → Type 0) (start s all : NumberSet) (rest : List ℕ) → s.bits < 2 ^ 64 → rest ≡ [] → Gathered R start (members s) rest all
    → (k : ℕ) → Iff (In k all) (In k start ⊎ ∥ ((c : ℕ) × In c s × R c k) ∥₁)
gathered_all R start s all rest l e g k = (
  λ h. ⊎_elim inl (λ p. inr (∥∥₁_map p (λ q. (q.0, member_of s q.0 q.1, q.2)))) (g.sound k h),
  λ h.
      ⊎_elim (g.kept k)
      (λ p. ∥∥₁_elim p (ℕ_set _ _) (λ q. ⊎_elim (λ b. absurd (no_item q.0 (subst (λ xs. Contains xs q.0) e b))) (λ b. b) (g.taken q.0 k (members_has s q.0 l q.1) q.2)))
      h,
)

-- the next one to come is a member
pub gathered_next : (R : ℕ → ℕ → Type 0) (start s all : NumberSet) (before rest : List ℕ) (x : ℕ) → before ≡ x ∷ rest → Gathered R start (members s) before all → In x s
gathered_next R start s all before rest x e g = member_of s x (g.within x (subst (λ xs. Contains xs x) (sym e) (0, omega arith, refl)))
