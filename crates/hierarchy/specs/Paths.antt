-- Ways along the links, and the order that they make.
use Rattle.std.specs.Prelude.{◌≡◌, ℕ, ◌<◌, ◌≤◌, List, length}
use Rattle.std.proofs.Common.{subst, ⊎_elim}
use Rattle.std.proofs.Math.Nat.{le_refl, le_trans, le_of_lt, le_antisymm, lt_of_le_of_lt}
use Rattle.std.proofs.Math.Logic.{∥∥₁_elim, ∥∥₁_map₂}
use Rattle.std.proofs.Math.Bridge.{le_prop}
use Rattle.std.proofs.lemmas.List.{get_or_past}
use Rattle.std.proofs.lemmas.Bool.{cases_lt}
use Rattle.sets.specs.declared.NumberSet.{NumberSet}
use Rattle.sets.specs.Members.{In}
use Rattle.sets.proofs.Membership.{not_in_none}
use Rattle.hierarchy.specs.Order.{none, links_of, Falling, Steps, here, up, Below, Reflexive, Transitive}

-- ---- ways

pub joined : {links : List NumberSet} {a b c : ℕ} → Steps links a b → Steps links b c → Steps links a c
joined (here l) s = s
joined (up e r) s = up e (joined r s)

pub steps_le : {links : List NumberSet} {a b : ℕ} → Falling links → Steps links a b → b ≤ a
steps_le f (here l) = le_refl _
steps_le f (up e r) = le_trans (steps_le f r) (le_of_lt (f.1 _ _ e))

-- only a declared number has links
pub link_declared : (links : List NumberSet) (a b : ℕ) → In b (links_of links a) → a < length links
link_declared links a b h = ⊎_elim (λ l. l) (λ l. absurd (not_in_none b (subst (In b) (get_or_past links a none l) h))) (cases_lt a (length links))

pub steps_from : {links : List NumberSet} {a b : ℕ} → Steps links a b → a < length links
steps_from (here l) = l
steps_from {links} (up {a = a} {b = b} e r) = link_declared links a b e

-- ---- the order

pub below_refl : (links : List NumberSet) → Reflexive (length links) (Below links)
below_refl links a l = ∣ here l ∣₁

pub below_trans : (links : List NumberSet) → Transitive (Below links)
below_trans links a b c p q = ∥∥₁_map₂ p q joined

pub below_le : (links : List NumberSet) → Falling links → (a b : ℕ) → Below links a b → b ≤ a
below_le links f a b p = ∥∥₁_elim p le_prop (steps_le f)

pub below_antisym : (links : List NumberSet) → Falling links → (a b : ℕ) → Below links a b → Below links b a → a ≡ b
below_antisym links f a b p q = le_antisymm (below_le links f b a q) (below_le links f a b p)

pub below_within : (links : List NumberSet) → Falling links → (a b : ℕ) → Below links a b → (a < length links) × (b < length links)
below_within links f a b p =
    let l : a < length links = ∥∥₁_elim p le_prop steps_from in
    (l, lt_of_le_of_lt (below_le links f a b p) l)
