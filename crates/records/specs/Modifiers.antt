-- The modifiers of a view, as bits of a byte.
use Rattle.std.specs.Prelude.{ℕ}
use Rattle.records.specs.declared.modifiers.Modifier.{Modifier}
use Rattle.records.specs.declared.modifiers.Modifier.TheVariants.{Assignable, Virtual, Static}

-- the bit that stands for a modifier
abbrev pub bit_of : Modifier → ℕ
bit_of Assignable = 0
bit_of Virtual = 1
bit_of Static = 2
