-- What the kept links are.
use Rattle.std.specs.Prelude.{List, take}
use Rattle.sets.specs.declared.NumberSet.{NumberSet}
use Rattle.hierarchy.specs.declared.links.Links.{Links}

-- the links of each declared number, in the order of the numbers
abbrev pub linked : Links → List NumberSet
linked l = take l.len l.rows
