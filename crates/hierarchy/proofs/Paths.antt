-- What more follows of the order that links make.
use Rattle.std.specs.Prelude.{ℕ, true, List, length}
use Rattle.std.proofs.Common.{arith}
use Rattle.std.proofs.Math.Bool.{Bool-set}
use Rattle.std.proofs.Math.Logic.{∥∥₁_elim, ∥∥₁_map}
use Rattle.sets.specs.declared.NumberSet.{NumberSet}
use Rattle.sets.specs.Members.{In}
use Rattle.hierarchy.specs.Order.{links_of, Falling, Steps, here, up, Below, Reflexive, Contains, Holds, LeastOrder}
use Rattle.hierarchy.specs.Paths.{link_declared, below_refl, below_trans}

pub below_link : (links : List NumberSet) → Falling links → Contains (Below links) links
below_link links f a b h =
    let l = link_declared links a b h in
    let m = f.1 a b h in
    ∣ up h (here (omega arith)) ∣₁

-- one link more at the lower end
pub below_up : (links : List NumberSet) (a b c : ℕ) → In b (links_of links a) → Below links b c → Below links a c
below_up links a b c h p = ∥∥₁_map p (up h)

along : {links : List NumberSet} (R : ℕ → ℕ → Type 0) → Reflexive (length links) R → ((a b c : ℕ) → In b (links_of links a) → R b c → R a c) → {a b : ℕ} → Steps links a b → R a b
along R r t (here {a = a} l) = r a l
along R r t (up {a = a} {b = b} {c = c} e s) = t a b c e (along R r t s)

-- what holds of each declared number with itself, and passes down each link, holds of every pair
pub below_ind : (links : List NumberSet) (R : ℕ → ℕ → Type 0) → ((a b : ℕ) → IsProp (R a b)) → Reflexive (length links) R → ((a b c : ℕ) → In b (links_of links a) → R b c → R a c) → (a b : ℕ) → Below links a b → R a b
below_ind links R q r t a b p = ∥∥₁_elim p (q a b) (along R r t)

pub least_order : LeastOrder
least_order links f = (
  below_refl links,
  below_trans links,
  below_link links f,
  λ r re tr co. below_ind links (Holds r) (λ a b. Bool-set (r a b) true) re (λ a b c h. tr a b c (co a b h)),
)
