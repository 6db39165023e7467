-- Existence, as a statement that has at most one proof.

-- some value has the property
abbrev pub Exists : {A : Type 0} → (A → Type 0) → Type 0
Exists {A} P = ∥ ((a : A) × P a) ∥₁
