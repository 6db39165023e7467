use Rattle.std.proofs.Common.{refl}
use Rattle.acceptance.proofs.Inheriting.{falling_slice}
use Rattle.acceptance.proofs.orders.Orders.of.Goals as goal

pub falling_order-requires : goal.falling_order-requires
falling_order-requires g c = falling_slice (λ r. r.supertypes) _ refl _ _ c.as_slice.ensures.items c.as_slice.ensures.within c.requires.supertypes

pub falling_order-requires-2 : goal.falling_order-requires-2
falling_order-requires-2 g c = falling_slice (λ r. r.superroles) _ refl _ _ c.as_slice-2.ensures.items c.as_slice-2.ensures.within c.requires.superroles

pub falling_order-requires-3 : goal.falling_order-requires-3
falling_order-requires-3 g c = falling_slice (λ r. r.bases) _ refl _ _ c.as_slice-3.ensures.items c.as_slice-3.ensures.within c.requires.bases
