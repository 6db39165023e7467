-- What the rules ask of a view by itself, of a view and one that it extends, and of two views.
use Rattle.std.specs.Prelude.{ℕ, ◌⊎◌, ◌≢◌}
use Rattle.sets.specs.Members.{In, Bit}
use Rattle.records.specs.declared.View.{View}
use Rattle.views.specs.Some.{Exists}
use Rattle.views.specs.Rights.{Right, strong_permission, strong_denial, Has, Denies, Becomes}

-- a holder may pass the view on
abbrev pub Assignable : View → Type 0
Assignable v = Bit 0 v.modifiers

-- the view is there to be extended
abbrev pub Virtual : View → Type 0
Virtual v = Bit 1 v.modifiers

-- the view may be given to roles only
abbrev pub Static : View → Type 0
Static v = Bit 2 v.modifiers

-- ---- of a view by itself

-- no operation has two rights
abbrev pub OneRight : View → Type 0
OneRight v = (x y : Right) (o : ℕ) → (x ≢ y) → Has v x o → Has v y o → ⊥

-- an assignable view denies nothing
abbrev pub AssignableDeniesNothing : View → Type 0
AssignableDeniesNothing v = Assignable v → (x : Right) (o : ℕ) → Denies x → Has v x o → ⊥

-- a virtual view has no right
abbrev pub VirtualHasNone : View → Type 0
VirtualHasNone v = Virtual v → (x : Right) (o : ℕ) → Has v x o → ⊥

-- ---- of a view and one that it extends

-- the view is restricted to some roles
abbrev pub Restricted : View → Type 0
Restricted v = Exists (λ r. In r v.restriction)

-- what the other requires is required, and where the other is static, so is the view
abbrev pub RequirementsFollow : View → View → Type 0
RequirementsFollow v w = ((k : ℕ) → In k w.required → In k v.required) × (Static w → Static v)

-- every right of the other is there in an allowed form
abbrev pub RightsKept : View → View → Type 0
RightsKept v w = (x : Right) (o : ℕ) → Has w x o → Exists (λ y. Becomes x y × Has v y o)

-- every denial is for an operation for which the other has a right: what is new is permitted
abbrev pub NewPermitted : View → View → Type 0
NewPermitted v w = (y : Right) (o : ℕ) → Denies y → Has v y o → Exists (λ x. Has w x o)

-- both
abbrev pub RightsFollow : View → View → Type 0
RightsFollow v w = RightsKept v w × NewPermitted v w

-- ---- of two views

-- they hold strong rights of opposite mode for operation o
abbrev pub Opposed : View → View → ℕ → Type 0
Opposed v w o = (Has v strong_permission o × Has w strong_denial o) ⊎ (Has v strong_denial o × Has w strong_permission o)
