-- A set as eight bytes, the highest first.
use Rattle.std.specs.Prelude.{ℕ, zero, suc, ◌/◌, ◌%◌, List, [], ◌∷◌, ◌++◌}
use Rattle.std.specs.Int.Digits.{number_from_digits}
use Rattle.sets.specs.declared.NumberSet.{NumberSet}

-- the lowest k bytes of a number, the highest first
abbrev pub bytes_in : ℕ → ℕ → List ℕ
bytes_in zero n = []
bytes_in (suc k) n = bytes_in k (n / 256) ++ (n % 256 ∷ [])

-- the set that bytes stand for
abbrev pub set_of : List ℕ → NumberSet
set_of bs = record { bits = number_from_digits 256 bs }

-- the eight bytes that stand for a set
abbrev pub bytes_of : NumberSet → List ℕ
bytes_of s = bytes_in 8 s.bits
