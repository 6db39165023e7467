-- Who lies at or below whom, from the links of each number.
use Rattle.std.specs.Prelude.{◌≡◌, ℕ, ◌<◌, ◌≤◌, Bool, true, List, length, slice_index_or}
use Rattle.sets.specs.declared.NumberSet.{NumberSet}
use Rattle.sets.specs.Members.{In, Iff}
pub use Rattle.sets.specs.Members.{none}

-- the numbers directly above a; a number that is not declared has none
abbrev pub links_of : List NumberSet → ℕ → NumberSet
links_of links a = slice_index_or links a none

-- at most 64 numbers are declared, and each links only to lower ones
abbrev pub Falling : List NumberSet → Type 0
Falling links = (length links ≤ 64) × ((i b : ℕ) → In b (links_of links i) → b < i)

-- a way from a declared number up along the links
pub data Steps (links : List NumberSet) : ℕ → ℕ → Type 0 where
  here : {a : ℕ} → a < length links → Steps links a a
  up : {a b c : ℕ} → In b (links_of links a) → Steps links b c → Steps links a c

-- a lies at or below b: some way leads from a to b
abbrev pub Below : List NumberSet → ℕ → ℕ → Type 0
Below links a b = ∥ Steps links a b ∥₁

-- each of the first n numbers is related to itself
abbrev pub Reflexive : ℕ → (ℕ → ℕ → Type 0) → Type 0
Reflexive n R = (a : ℕ) → a < n → R a a

-- two pairs that meet make a third
abbrev pub Transitive : (ℕ → ℕ → Type 0) → Type 0
Transitive R = (a b c : ℕ) → R a b → R b c → R a c

-- every link is a pair
abbrev pub Contains : (ℕ → ℕ → Type 0) → List NumberSet → Type 0
Contains R links = (a b : ℕ) → In b (links_of links a) → R a b

-- the pairs for which a test is true
abbrev pub Holds : (ℕ → ℕ → Bool) → ℕ → ℕ → Type 0
Holds r a b = r a b ≡ true

-- of falling links, Below is the least relation that is reflexive and transitive and contains the links
abbrev pub LeastOrder : Type 0
LeastOrder = (links : List NumberSet) → Falling links
    → Reflexive (length links) (Below links)
    × Transitive (Below links)
    × Contains (Below links) links
    × ((r : ℕ → ℕ → Bool) → Reflexive (length links) (Holds r) → Transitive (Holds r) → Contains (Holds r) links → (a b : ℕ) → Below links a b → Holds r a b)

-- a relation is the order that the links make
abbrev pub Means : (ℕ → ℕ → Type 0) → List NumberSet → Type 0
Means pairs links = (a b : ℕ) → Iff (pairs a b) (Below links a b)

-- k is in the set of some number that a lies at or below
abbrev pub Collected : (ℕ → ℕ → Type 0) → List NumberSet → ℕ → ℕ → Type 0
Collected pairs sets a k = ∥ ((b : ℕ) × pairs a b × In k (slice_index_or sets b none)) ∥₁
