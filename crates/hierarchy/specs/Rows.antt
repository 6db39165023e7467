-- What the kept rows say.
use Rattle.std.specs.Prelude.{ℕ, ◌<◌, List, slice_index}
use Rattle.sets.specs.declared.NumberSet.{NumberSet}
use Rattle.sets.specs.Members.{Bit, Iff}
use Rattle.hierarchy.specs.Order.{Below}

-- the rows of the first n numbers have the numbers at or above each
abbrev pub Told : List NumberSet → List ℕ → ℕ → Type 0
Told links rows n = (i k : ℕ) → i < n → Iff (Bit k (slice_index rows i)) (Below links i k)

-- number a is one of the first n, and its row has b
abbrev pub InRows : List ℕ → ℕ → ℕ → ℕ → Type 0
InRows rows n a b = (a < n) × Bit b (slice_index rows a)
