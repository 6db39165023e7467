-- What is collected along an order of records.
use Rattle.std.proofs.Common.{◌≡◌, ℕ, zero, suc, ◌<◌, ◌≤◌, List, [], ◌∷◌, map, length, get_or, sym, refl, subst, arith}
use mathlib.Core.Logic.{∥∥₁_map}
use Rattle.std.proofs.lemmas.List.{length-map}
use Rattle.sets.specs.declared.NumberSet.{NumberSet}
use Rattle.sets.specs.Members.{In, Iff, none}
use Rattle.hierarchy.specs.Order.{Below, Falling, Collected, Means}
use Rattle.views.specs.Some.{Exists}

-- the set of each record, where one that is not declared has none
pub set_at : {A : Type 0} (f : A → NumberSet) (d : A) → f d ≡ none → (xs : List A) (i : ℕ) → get_or (map f xs) i none ≡ f (get_or xs i d)
set_at f d e [] i = sym e
set_at f d e (x ∷ xs) zero = refl
set_at f d e (x ∷ xs) (suc i) = set_at f d e xs i

pub falling : {A : Type 0} (f : A → NumberSet) (d : A) → f d ≡ none → (xs : List A) → length xs ≤ 64 → ((i k : ℕ) → In k (f (get_or xs i d)) → k < i) → Falling (map f xs)
falling f d e xs l h = (
  (let n = length-map xs f in omega arith),
  λ i k p. h i k (subst (In k) (set_at f d e xs i) p),
)

-- the same of a slice of the list
pub falling_slice : {A : Type 0} (f : A → NumberSet) (d : A) → f d ≡ none → (slice xs : List A) → slice ≡ xs → length slice ≤ 64 → ((i k : ℕ) → In k (f (get_or xs i d)) → k < i) → Falling (map f slice)
falling_slice f d e slice xs same l h = falling f d e slice l (subst (λ ys. (i k : ℕ) → In k (f (get_or ys i d)) → k < i) (sym same) h)

-- what is collected along a slice of the list is what something at or above carries
pub collected : {A : Type 0} (carried : A → NumberSet) (d : A) → carried d ≡ none → (slice xs : List A) → slice ≡ xs → (links : List NumberSet) (pairs : ℕ → ℕ → Type 0) → Means pairs links → (a : ℕ) (all : NumberSet)
    → ((k : ℕ) → Iff (In k all) (Collected pairs (map carried slice) a k)) → (k : ℕ) → Iff (In k all) (Exists (λ b. Below links a b × In k (carried (get_or xs b d))))
collected carried d e slice xs same links pairs m a all i k =
    let told = subst (λ ys. Iff (In k all) (Collected pairs (map carried ys) a k)) same (i k) in (
      λ h. ∥∥₁_map (told.0 h) (λ s. (s.0, ((m a s.0).0 s.1, subst (In k) (set_at carried d e xs s.0) s.2))),
      λ p. told.1 (∥∥₁_map p (λ s. (s.0, (m a s.0).1 s.1.0, subst (In k) (sym (set_at carried d e xs s.0)) s.1.1))),
    )
