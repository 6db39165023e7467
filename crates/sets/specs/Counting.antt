-- How many things have a property.
use Rattle.std.specs.Prelude.{◌≡◌, ℕ, ◌⊎◌, List, [], ◌∷◌, length}
use Rattle.sets.specs.Members.{Iff}

-- a stands in the list
abbrev pub Listed : {A : Type 0} → A → List A → Type 0
Listed a [] = ⊥
Listed a (x ∷ xs) = (a ≡ x) ⊎ Listed a xs

-- the list has no repetition
abbrev pub Distinct : {A : Type 0} → List A → Type 0
Distinct [] = Unit {0}
Distinct (x ∷ xs) = (Listed x xs → ⊥) × Distinct xs

-- exactly n have the property: some list without repetition has just these, and is n long
abbrev pub HowMany : {A : Type 0} → (A → Type 0) → ℕ → Type 0
HowMany {A} P n = (xs : List A) × Distinct xs × ((a : A) → Iff (Listed a xs) (P a)) × (length xs ≡ n)
