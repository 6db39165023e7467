-- The numbers of the rules, as users see them, and what a rejection says.
use Rattle.std.specs.Prelude.{ℕ, None, Option}
use Rattle.book.specs.declared.refusal.Fault.{Fault}
use Rattle.records.specs.declared.View.{View}
use Rattle.book.specs.Refusals.{number_of}
use Rattle.acceptance.specs.declared.rejection.Rule.{Rule}
use Rattle.acceptance.specs.declared.rejection.Rule.TheVariants.{TwoRights, ForeignOperation, AssignableDenial, VirtualRight, ControlledType, RoleRestriction, Requirement, Redefinition, Clashing}
use Rattle.acceptance.specs.declared.rejection.Reason.{Reason}
use Rattle.acceptance.specs.declared.rejection.Reason.TheVariants.{OfForm, OfRule}
use Rattle.acceptance.specs.declared.rejection.Rejection.{Rejection}

-- the number of a rule
abbrev pub rule_number : Rule → ℕ
rule_number TwoRights = 11
rule_number ForeignOperation = 12
rule_number AssignableDenial = 13
rule_number VirtualRight = 14
rule_number ControlledType = 15
rule_number RoleRestriction = 16
rule_number Requirement = 17
rule_number Redefinition = 18
rule_number Clashing = 19

-- the number of a reason
abbrev pub reason_number : Reason → ℕ
reason_number (OfForm r) = number_of r
reason_number (OfRule r) = rule_number r

-- a view breaks a rule, by itself or against another view
abbrev pub breach : Rule → View → Option ℕ → Rejection
breach r v other = record { reason = OfRule r; place = v.place; other = other }

-- the form is refused
abbrev pub form_fault : Fault → Rejection
form_fault f = record { reason = OfForm f.refusal; place = f.place; other = None }
