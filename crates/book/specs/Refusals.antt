-- The numbers of the refusals, as users see them.
use Rattle.std.specs.Prelude.{ℕ}
use Rattle.book.specs.declared.refusal.Refusal.{Refusal}
use Rattle.book.specs.declared.refusal.Refusal.TheVariants.{Size, Version, Order, Ends, Map, Empty, TooMany, Undeclared}

-- the number of a refusal
abbrev pub number_of : Refusal → ℕ
number_of Size = 1
number_of Version = 2
number_of Order = 3
number_of Ends = 4
number_of Map = 5
number_of Empty = 6
number_of TooMany = 7
number_of Undeclared = 8
