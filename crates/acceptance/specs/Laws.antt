-- What holds of every accepted book.
use Rattle.std.specs.Prelude.{ℕ, ◌<◌, length}
use Rattle.sets.specs.Members.{Iff}
use Rattle.hierarchy.specs.Order.{Below}
use Rattle.records.specs.declared.View.{View}
use Rattle.book.specs.declared.contents.Records.{Records}
use Rattle.book.specs.Declarations.{view_at}
use Rattle.views.specs.Some.{Exists}
use Rattle.acceptance.specs.Orders.{view_links, group_links, type_links, OperationOf, RoleOf, MemberOf, SubjectRole}
use Rattle.views.specs.Rights.{Right, strong_permission, strong_denial, Has, Strong}
use Rattle.views.specs.ViewRules.{RequirementsFollow, RightsKept, NewPermitted, OneRight, AssignableDeniesNothing, VirtualHasNone}
use Rattle.acceptance.specs.Rules.{TypeFollows, RestrictionFollows, OwnOperations}

-- a view and one that it extends at any distance
pub record Extension (c : Records) (v w : View) : Type 0 where
  pub typed : TypeFollows c v w
  pub restricted : RestrictionFollows c v w
  pub required : RequirementsFollow v w
  pub kept : RightsKept v w
  pub new : NewPermitted v w
  pub strong : (x : Right) (o : ℕ) → Strong x → Has w x o → Has v x o

-- what holds of every accepted book
pub record Kept (c : Records) : Type 0 where
  -- of every pair of the view order
  pub extension : (i j : ℕ) → Below (view_links c) i j → Extension c (view_at c i) (view_at c j)
  -- of every view
  pub one_right : (i : ℕ) → OneRight (view_at c i)
  pub own_operations : (i : ℕ) → OwnOperations c (view_at c i)
  pub assignable : (i : ℕ) → AssignableDeniesNothing (view_at c i)
  pub virtual : (i : ℕ) → VirtualHasNone (view_at c i)
  -- of every two views that are not related, with a type at or below both controlled types
  pub no_clash : (i j t o : ℕ) → i < length c.views → j < length c.views → (Below (view_links c) i j → ⊥) → (Below (view_links c) j i → ⊥)
      → Below (type_links c) t (view_at c i).controlled → Below (type_links c) t (view_at c j).controlled
      → Has (view_at c i) strong_permission o → Has (view_at c j) strong_denial o → ⊥
  -- a type has the operations of the types above it
  pub operations : (t u o : ℕ) → Below (type_links c) t u → OperationOf c u o → OperationOf c t o
  -- membership carries to the groups above
  pub members : (s g h : ℕ) → MemberOf c s g → Below (group_links c) g h → MemberOf c s h
  -- a group has the roles of the groups above it
  pub group_roles : (g h r : ℕ) → Below (group_links c) g h → RoleOf c h r → RoleOf c g r
  -- a subject's roles are those of the groups that it is a member of
  pub subject_roles : (s r : ℕ) → Iff (SubjectRole c s r) (Exists (λ g. MemberOf c s g × RoleOf c g r))
