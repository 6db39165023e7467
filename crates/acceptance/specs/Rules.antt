-- The rules of acceptance, each as a proposition over the records.
use Rattle.std.specs.Prelude.{ℕ, ◌<◌, length}
use Rattle.sets.specs.Members.{In}
use Rattle.hierarchy.specs.Order.{Below}
use Rattle.records.specs.declared.View.{View}
use Rattle.book.specs.declared.contents.Records.{Records}
use Rattle.book.specs.Declarations.{view_at, Declares}
use Rattle.views.specs.Some.{Exists}
use Rattle.views.specs.ViewRules.{OneRight, AssignableDeniesNothing, VirtualHasNone, Restricted, RequirementsFollow, RightsFollow, Opposed}
use Rattle.acceptance.specs.Orders.{type_links, role_links, view_links, OperationOf}
use Rattle.views.specs.Rights.{Right, Has}

-- ---- of a view by itself

-- rights are for operations of the controlled type only
abbrev pub OwnOperations : Records → View → Type 0
OwnOperations c v = (x : Right) (o : ℕ) → Has v x o → OperationOf c v.controlled o

-- ---- of a view and one that it extends

-- the controlled type is at or below that of the other
abbrev pub TypeFollows : Records → View → View → Type 0
TypeFollows c v w = Below (type_links c) v.controlled w.controlled

-- where the other is restricted, so is the view, and only to roles at or below those of the other
abbrev pub RestrictionFollows : Records → View → View → Type 0
RestrictionFollows c v w =
    Restricted w
    → Restricted v × ((r : ℕ) → In r v.restriction → Exists (λ s. In s w.restriction × Below (role_links c) r s))

-- ---- of two views

-- neither view extends the other, and they are opposed for some operation
abbrev pub Rivals : Records → ℕ → ℕ → Type 0
Rivals c i j = (Below (view_links c) i j → ⊥) × (Below (view_links c) j i → ⊥) × Exists (λ o. Opposed (view_at c i) (view_at c j) o)

-- type t is at or below the controlled types of both views
abbrev pub Shared : Records → ℕ → ℕ → ℕ → Type 0
Shared c i j t = Below (type_links c) t (view_at c i).controlled × Below (type_links c) t (view_at c j).controlled

-- two views clash: they are rivals, and share a declared type
abbrev pub Clash : Records → ℕ → ℕ → Type 0
Clash c i j = Rivals c i j × Exists (λ t. Shared c i j t)

-- ---- of the whole book

-- the records keep every rule
pub record Rules (c : Records) : Type 0 where
  pub one_right : (i : ℕ) → i < length c.views → OneRight (view_at c i)
  pub own_operations : (i : ℕ) → i < length c.views → OwnOperations c (view_at c i)
  pub assignable : (i : ℕ) → i < length c.views → AssignableDeniesNothing (view_at c i)
  pub virtual : (i : ℕ) → i < length c.views → VirtualHasNone (view_at c i)
  pub types : (i b : ℕ) → i < length c.views → In b (view_at c i).bases → TypeFollows c (view_at c i) (view_at c b)
  pub restrictions : (i b : ℕ) → i < length c.views → In b (view_at c i).bases → RestrictionFollows c (view_at c i) (view_at c b)
  pub requirements : (i b : ℕ) → i < length c.views → In b (view_at c i).bases → RequirementsFollow (view_at c i) (view_at c b)
  pub rights : (i b : ℕ) → i < length c.views → In b (view_at c i).bases → RightsFollow (view_at c i) (view_at c b)
  pub no_clash : (i j : ℕ) → i < j → j < length c.views → Clash c i j → ⊥

-- what an accepted book is
abbrev pub Accepted : Records → Type 0
Accepted c = Declares c × Rules c
