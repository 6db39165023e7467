-- Tests that tell whether something holds.
use Rattle.std.proofs.Common.{◌≡◌, ℕ, zero, suc, ◌<◌, Bool, true, false, not, ◌&&◌, ◌||◌, eqb, ltb, Decides, ◌⊎◌, refl}
use mathlib.Core.Bool.{Bool-set}
use mathlib.Core.Logic.{∥∥₁_elim}
use Rattle.std.proofs.lemmas.Bool.{false≢true}
use Rattle.std.proofs.lemmas.Bool.Decides.{Decides-like, Decides-not, Decides-and, Decides-or, Decides-eqb, Decides-ltb, Decides-below_and, Decides-below_or}
use Rattle.sets.specs.Members.{Iff}
use Rattle.views.specs.Some.{Exists}

-- the test passes exactly where P holds: a record, so that the test and P are found from it
pub record Tells (b : Bool) (P : Type 0) : Type 0 where
  pub decides : Decides b P

pub tells_also : {b : Bool} {P Q : Type 0} → Iff P Q → Tells b P → Tells b Q
tells_also {b = b} i t = record { decides = Decides-like b i.0 i.1 t.decides }

-- the proof may be any
tells_some_proof : (b : Bool) (P : Type 0) → Decides b P → Tells b ∥ P ∥₁
tells_some_proof b P d = record { decides = (λ e. ∣ d.0 e ∣₁, λ p. ∥∥₁_elim p (Bool-set _ _) d.1) }

pub tells_not : {b : Bool} {P : Type 0} → Tells b P → Tells (not b) (P → ⊥)
tells_not {b = b} t = record { decides = Decides-not b t.decides }

pub tells_and : {a b : Bool} {P Q : Type 0} → Tells a P → Tells b Q → Tells (a && b) (P × Q)
tells_and {a = a} {b = b} t u = record { decides = Decides-and a b t.decides u.decides }

pub tells_or : {a b : Bool} {P Q : Type 0} → Tells a P → Tells b Q → Tells (a || b) ∥ P ⊎ Q ∥₁
tells_or {a = a} {b = b} {P = P} {Q = Q} t u = tells_some_proof (a || b) (P ⊎ Q) (Decides-or a b t.decides u.decides)

pub tells_if : {a b : Bool} {P Q : Type 0} → Tells a P → Tells b Q → Tells (not a || b) (P → Q)
tells_if {a = true} t u = record { decides = (λ e p. u.decides.0 e, λ f. u.decides.1 (f (t.decides.0 refl))) }
tells_if {a = false} t u = record { decides = (λ e p. absurd (false≢true (t.decides.1 p)), λ f. refl) }

pub tells_equal : (a b : ℕ) → Tells (eqb a b) (a ≡ b)
tells_equal a b = record { decides = Decides-eqb a b }

pub tells_less : (a b : ℕ) → Tells (ltb a b) (a < b)
tells_less a b = record { decides = Decides-ltb a b }

-- ---- of the numbers below a limit

-- the test passes at each number below n
abbrev pub every_below : ℕ → (ℕ → Bool) → Bool
every_below zero f = true
every_below (suc n) f = f n && every_below n f

pub tells_every : (n : ℕ) (f : ℕ → Bool) (P : ℕ → Type 0) → ((k : ℕ) → Tells (f k) (P k)) → Tells (every_below n f) ((k : ℕ) → k < n → P k)
tells_every n f P t = record { decides = Decides-below_and f P (λ n. every_below n f) (λ k. (t k).decides) refl (λ _. refl) n }

-- the test passes at some number below n
abbrev pub some_below : ℕ → (ℕ → Bool) → Bool
some_below zero f = false
some_below (suc n) f = f n || some_below n f

pub tells_some : (n : ℕ) (f : ℕ → Bool) (P : ℕ → Type 0) → ((k : ℕ) → Tells (f k) (P k)) → Tells (some_below n f) (Exists (λ k. (k < n) × P k))
tells_some n f P t =
    tells_some_proof (some_below n f) ((k : ℕ) × ((k < n) × P k))
    (Decides-like (some_below n f) (λ s. (s.0, (s.1, s.2))) (λ s. (s.0, s.1.0, s.1.1))
    (Decides-below_or f P (λ n. some_below n f) (λ k. (t k).decides) refl (λ _. refl) n))
