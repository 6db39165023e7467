-- Questions about a set, as tests that compute.
use Rattle.std.specs.Prelude.{ℕ, ◌^◌, Bool, ◌==◌, nat_lt}
use Rattle.sets.specs.declared.NumberSet.{NumberSet}

-- the set has no member
abbrev pub is_empty : NumberSet → Bool
is_empty s = s.bits == 0

-- every member is below n
abbrev pub is_below : ℕ → NumberSet → Bool
is_below n s = nat_lt s.bits (2 ^ n)
