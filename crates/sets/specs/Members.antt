-- Membership in a set of numbers.
use Rattle.std.specs.Prelude.{◌≡◌, ℕ, ◌/◌, ◌%◌, ◌^◌, Bool, List, filter, ◌==◌}
use Rattle.std.specs.List.{range_with_len}
use Rattle.std.specs.Int.{bit_at}
use Rattle.sets.specs.declared.NumberSet.{NumberSet}

-- each follows from the other
abbrev pub Iff : Type 0 → Type 0 → Type 0
Iff p q = (p → q) × (q → p)

-- the bit of n that is worth 2 ^ i is set
abbrev pub Bit : ℕ → ℕ → Type 0
Bit i n = n / 2 ^ i % 2 ≡ 1

-- number i is in the set
abbrev pub In : ℕ → NumberSet → Type 0
In i s = Bit i s.bits

-- the set with no member
abbrev pub none : NumberSet
none = record { bits = 0 }

-- whether number i is in the set, as a test that computes
abbrev pub has : NumberSet → ℕ → Bool
has s i = bit_at s.bits i == 1

-- the members of a set, in rising order
unfoldable pub members : NumberSet → List ℕ
members s = filter (has s) (range_with_len 0 64)
