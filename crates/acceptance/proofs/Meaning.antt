-- What an order tells of which it is only known that it means the links.
use Rattle.std.proofs.Common.{ℕ, Bool, Decides, List}
use Rattle.std.proofs.Math.Logic.{∥∥₁_elim, ∥∥₁_prop, ∥∥₁_map}
use Rattle.std.proofs.Math.Bool.{Bool-set}
use mathlib.Core.HLevel.{Π_prop, →_prop}
use Rattle.sets.specs.declared.NumberSet.{NumberSet}
use Rattle.sets.specs.Members.{In, Iff}
use Rattle.hierarchy.specs.Order.{Below, Means}
use Rattle.views.specs.Some.{Exists}

-- what is known to be the same under a fact is the same
pub same_under : {A P Q : Type 0} → ∥ A ∥₁ → IsProp P → IsProp Q → (A → Iff P Q) → Iff P Q
same_under t p q f = (λ h. ∥∥₁_elim t q (λ a. (f a).0 h), λ h. ∥∥₁_elim t p (λ a. (f a).1 h))

module _ (pairs : ℕ → ℕ → Type 0) (links : List NumberSet) (t : ∥ Means pairs links ∥₁) (r : Bool) where
  -- a test of a pair is one of what lies below
  pub tells_below : (a b : ℕ) → Decides r (pairs a b) → Decides r (Below links a b)
  tells_below a b d = same_under t (Bool-set _ _) ∥∥₁_prop (λ m. (λ e. (m a b).0 (d.0 e), λ p. d.1 ((m a b).1 p)))

  -- and so for sets
  pub tells_sets_below : (set other : NumberSet) → Decides r ((k : ℕ) → In k set → Exists (λ s. In s other × pairs k s)) → Decides r ((k : ℕ) → In k set → Exists (λ s. In s other × Below links k s))
  tells_sets_below set other d =
      same_under t (Bool-set _ _) (Π_prop (λ k. →_prop ∥∥₁_prop))
      (λ m. (
        λ e k h. ∥∥₁_map (d.0 e k h) (λ s. (s.0, (s.1.0, (m k s.0).0 s.1.1))),
        λ f. d.1 (λ k h. ∥∥₁_map (f k h) (λ s. (s.0, (s.1.0, (m k s.0).1 s.1.1)))),
      ))
