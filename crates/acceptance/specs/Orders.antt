-- The orders of a book, and what is inherited along them.
use Rattle.std.specs.Prelude.{ℕ, List, map}
use Rattle.sets.specs.declared.NumberSet.{NumberSet}
use Rattle.sets.specs.Members.{In}
use Rattle.hierarchy.specs.Order.{Below}
use Rattle.book.specs.declared.contents.Records.{Records}
use Rattle.book.specs.Declarations.{type_at, group_at, subject_at}
use Rattle.views.specs.Some.{Exists}

-- the links of types: to the types above
abbrev pub type_links : Records → List NumberSet
type_links c = map (λ t. t.supertypes) c.types

-- the links of roles: to the roles above
abbrev pub role_links : Records → List NumberSet
role_links c = map (λ r. r.superroles) c.roles

-- the links of groups: to the groups above
abbrev pub group_links : Records → List NumberSet
group_links c = map (λ g. g.supergroups) c.groups

-- the links of views: to the views that they extend
abbrev pub view_links : Records → List NumberSet
view_links c = map (λ v. v.bases) c.views

-- o is an operation of type t: its own, or that of a type above
abbrev pub OperationOf : Records → ℕ → ℕ → Type 0
OperationOf c t o = Exists (λ s. Below (type_links c) t s × In o (type_at c s).operations)

-- group g has role r: its own, or that of a group above
abbrev pub RoleOf : Records → ℕ → ℕ → Type 0
RoleOf c g r = Exists (λ h. Below (group_links c) g h × In r (group_at c h).roles)

-- subject s is a member of group g: of g itself, or of a group below
abbrev pub MemberOf : Records → ℕ → ℕ → Type 0
MemberOf c s g = Exists (λ h. In h (subject_at c s).groups × Below (group_links c) h g)

-- subject s has role r: one of its groups has it
abbrev pub SubjectRole : Records → ℕ → ℕ → Type 0
SubjectRole c s r = Exists (λ g. In g (subject_at c s).groups × RoleOf c g r)
