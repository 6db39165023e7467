use Rattle.sets.specs.Members.{members}
use Rattle.sets.proofs.Gathering.{Gathered}
use Rattle.hierarchy.specs.Order.{Means}
use Rattle.acceptance.specs.Orders.{group_links, RoleOf}
use Rattle.acceptance.proofs.inherited.subject_roles.Given as goal

abbrev pub invariant-loop-group : goal.invariant-loop-group
invariant-loop-group g l =
    Means (g.H.Hierarchy.pairs l.groups) (group_links l.records)
    → Gathered (RoleOf l.records) l.initial.roles (members l.initial.group-iterator.left) (members l.group-iterator.left) l.roles
