-- The rights of a view, and how extension may change them.
use Rattle.std.specs.Prelude.{ℕ}
use Rattle.sets.specs.declared.NumberSet.{NumberSet}
use Rattle.sets.specs.Members.{In}
use Rattle.records.specs.declared.View.{View}

-- a mode with a priority
pub data Right : Type 0 where
  weak_permission : Right
  strong_permission : Right
  weak_denial : Right
  strong_denial : Right

-- the operations for which a view has the right
abbrev pub operations_with : View → Right → NumberSet
operations_with v weak_permission = v.weak.permitted
operations_with v strong_permission = v.strong.permitted
operations_with v weak_denial = v.weak.denied
operations_with v strong_denial = v.strong.denied

-- the view has the right for operation o
abbrev pub Has : View → Right → ℕ → Type 0
Has v x o = In o (operations_with v x)

-- the right denies
abbrev pub Denies : Right → Type 0
Denies weak_permission = ⊥
Denies strong_permission = ⊥
Denies weak_denial = Unit {0}
Denies strong_denial = Unit {0}

-- the right cannot be redefined
abbrev pub Strong : Right → Type 0
Strong weak_permission = ⊥
Strong strong_permission = Unit {0}
Strong weak_denial = ⊥
Strong strong_denial = Unit {0}

-- what a right of a view may become in a view that extends it: a strong right stays, a weak permission may become strong, and a weak denial any right
abbrev pub Becomes : Right → Right → Type 0
Becomes weak_permission weak_permission = Unit {0}
Becomes weak_permission strong_permission = Unit {0}
Becomes weak_permission weak_denial = ⊥
Becomes weak_permission strong_denial = ⊥
Becomes strong_permission weak_permission = ⊥
Becomes strong_permission strong_permission = Unit {0}
Becomes strong_permission weak_denial = ⊥
Becomes strong_permission strong_denial = ⊥
Becomes weak_denial y = Unit {0}
Becomes strong_denial weak_permission = ⊥
Becomes strong_denial strong_permission = ⊥
Becomes strong_denial weak_denial = ⊥
Becomes strong_denial strong_denial = Unit {0}
