-- Lists of checks with a test for each: the first that fails is the first check that applies.
use Rattle.std.proofs.Common.{ℕ, zero, suc, Bool, true, false, cond, List, [], ◌∷◌, ◌++◌, Some, None, Option, refl, inl, inr}
use Rattle.std.proofs.lemmas.Bool.{false≢true}
use Rattle.acceptance.specs.declared.rejection.Rejection.{Rejection}
use Rattle.acceptance.specs.Checks.{Check, ◌unless◌, First, up_to}
use Rattle.worked_cases.proofs.Telling.{Tells}

-- a rejection, unless the test passes
pub data Trial : Type 0 where
  trial : Rejection → Bool → Trial

-- the rejection of the first test that fails
abbrev pub first_failing : List Trial → Option Rejection
first_failing [] = None
first_failing (trial e b ∷ ts) = cond b (first_failing ts) (Some e)

-- the trials of each number below n, in rising order
abbrev pub trials_up_to : ℕ → (ℕ → List Trial) → List Trial
trials_up_to zero f = []
trials_up_to (suc n) f = trials_up_to n f ++ f n

-- each test tells whether its check passes
pub data Matched : List Check → List Trial → Type 1 where
  end : Matched [] []
  next : {e : Rejection} {P : Type 0} {b : Bool} {cs : List Check} {ts : List Trial} → Tells b P → Matched cs ts → Matched ((e unless P) ∷ cs) (trial e b ∷ ts)

pub matched_both : {cs ds : List Check} {ts us : List Trial} → Matched cs ts → Matched ds us → Matched (cs ++ ds) (ts ++ us)
matched_both end n = n
matched_both (next t m) n = next t (matched_both m n)

pub matched_each : (n : ℕ) (f : ℕ → List Check) (g : ℕ → List Trial) → ((i : ℕ) → Matched (f i) (g i)) → Matched (up_to n f) (trials_up_to n g)
matched_each zero f g h = end
matched_each (suc n) f g h = matched_both (matched_each n f g h) (h n)

first_by : (e : Rejection) (P : Type 0) (b : Bool) (cs : List Check) (o : Option Rejection) → Tells b P → First cs o → First ((e unless P) ∷ cs) (cond b o (Some e))
first_by e P true cs o t f = inr (t.decides.0 refl, f)
first_by e P false cs o t f = inl (λ p. false≢true (t.decides.1 p), refl)

pub matched_first : {cs : List Check} {ts : List Trial} → Matched cs ts → First cs (first_failing ts)
matched_first end = refl
matched_first (next {e = e} {P = P} {b = b} {cs = cs} {ts = ts} t m) = first_by e P b cs (first_failing ts) t (matched_first m)
