-- One pass from a number down, which gathers all numbers at or above it.
use Rattle.std.proofs.Common.{◌≡◌, ℕ, ◌+◌, ◌-◌, ◌<◌, ◌≤◌, ◌⊎◌, List, length, sym, refl, subst, inl, inr, ⊎_elim, arith}
use mathlib.Core.Logic.{∥∥₁_elim}
use native.Mathlib.Nat.{ℕ_set}
use Rattle.std.proofs.lemmas.Bool.{cases_eq}
use Rattle.sets.specs.declared.NumberSet.{NumberSet}
use Rattle.sets.specs.Members.{In, Iff}
use Rattle.hierarchy.specs.Order.{links_of, Falling, Steps, here, up, Below}
use Rattle.hierarchy.specs.Paths.{steps_from, below_refl, below_trans}
use Rattle.hierarchy.proofs.Paths.{below_link}

-- a set into which one number was put has that one alone
pub only : (empty row : NumberSet) (i : ℕ) → i < 64 → ((k : ℕ) → In k empty → ⊥) → ((k : ℕ) → Iff (In k row) (In k empty ⊎ ((k ≡ i) × (i < 64)))) → (k : ℕ) → Iff (In k row) (k ≡ i)
only empty row i l none h k = (λ p. ⊎_elim (λ q. absurd (none k q)) (λ q. q.0) ((h k).0 p), λ e. (h k).1 (inr (e, l)))

-- seen has been closed under the links of i and up
pub record Walk (links : List NumberSet) (a i : ℕ) (seen : NumberSet) : Type 0 where
  pub right : (k : ℕ) → In k seen → Below links a k
  pub start : In a seen
  pub closed : (x c : ℕ) → i ≤ x → In x seen → In c (links_of links x) → In c seen

pub walk_start : (links : List NumberSet) (a : ℕ) (seen : NumberSet) → a < length links → ((k : ℕ) → Iff (In k seen) (k ≡ a)) → Walk links a (a + 1) seen
walk_start links a seen l h = record {
  right = λ k p. subst (Below links a) (sym ((h k).0 p)) (below_refl links a l);
  start = (h a).1 refl;
  closed = λ x c p q r. let e = (h x).0 q in absurd (omega arith);
}

pub walk_take : (links : List NumberSet) (a i : ℕ) (seen new from : NumberSet) → Falling links → 0 < i → Walk links a i seen → In (i - 1) seen → from ≡ links_of links (i - 1) → ((k : ℕ) → Iff (In k new) (In k seen ⊎ In k from)) → Walk links a (i - 1) new
walk_take links a i seen new from f z w m e h = record {
  right = λ k p. ⊎_elim (w.right k) (λ q. below_trans links a (i - 1) k (w.right (i - 1) m) (below_link links f (i - 1) k (subst (In k) e q))) ((h k).0 p);
  start = (h a).1 (inl w.start);
  closed = λ x c p q r.
      ⊎_elim
      (λ y. (h c).1 (inr (subst (In c) (sym e) (subst (λ y. In c (links_of links y)) y r))))
      (λ y. ⊎_elim (λ s. (h c).1 (inl (w.closed x c (omega (arith, y)) s r))) (λ s. let v = f.1 (i - 1) x (subst (In x) e s) in absurd (omega arith)) ((h x).0 q))
      (cases_eq x (i - 1));
}

pub walk_pass : (links : List NumberSet) (a i : ℕ) (seen : NumberSet) → 0 < i → Walk links a i seen → (In (i - 1) seen → ⊥) → Walk links a (i - 1) seen
walk_pass links a i seen z w m = record {
  right = w.right;
  start = w.start;
  closed = λ x c p q r. ⊎_elim (λ y. absurd (m (subst (λ y. In y seen) y q))) (λ y. w.closed x c (omega (arith, y)) q r) (cases_eq x (i - 1));
}

gathered : {links : List NumberSet} {a : ℕ} {seen : NumberSet} {x k : ℕ} → Walk links a 0 seen → In x seen → Steps links x k → In k seen
gathered w p (here l) = p
gathered w p (up {a = x} {b = y} e r) = gathered w (w.closed x y (omega arith) p e) r

pub walk_done : (links : List NumberSet) (a i : ℕ) (seen : NumberSet) → i ≤ 0 → Walk links a i seen → (k : ℕ) → Iff (In k seen) (Below links a k)
walk_done links a i seen z w k =
    let e : i ≡ 0 = omega arith in
    let v : Walk links a 0 seen = subst (λ y. Walk links a y seen) e w in
    (w.right k, λ p. ∥∥₁_elim p (ℕ_set _ _) (gathered v w.start))

-- nothing is at or above a number that is not declared
pub walk_none : (links : List NumberSet) (a : ℕ) (seen : NumberSet) → length links ≤ a → ((k : ℕ) → In k seen → ⊥) → (k : ℕ) → Iff (In k seen) (Below links a k)
walk_none links a seen l h k = (λ p. absurd (h k p), λ p. ∥∥₁_elim p (ℕ_set _ _) (λ s. let m = steps_from s in absurd (omega arith)))
