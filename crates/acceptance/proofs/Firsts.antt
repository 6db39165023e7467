-- Lists of checks: where they pass, and where one of them applies first.
use Rattle.std.proofs.Common.{◌≡◌, ℕ, zero, suc, ◌<◌, List, [], ◌∷◌, ◌++◌, Bool, true, false, Some, None, Option, Ok, Err, Result, MatchResult, Decides, sym, refl, ap, ◌∙◌, subst, inl, inr, ⊎_elim, arith}
use Rattle.std.proofs.lemmas.Bool.{cases_eq}
use Rattle.std.proofs.lemmas.Bool.Decides.{not_from_Decides}
use Rattle.std.proofs.lemmas.Result.{err_from_is_err_and}
use Rattle.std.specs.Result.{IsErrAnd}
use Rattle.acceptance.specs.declared.rejection.Rejection.{Rejection}
use Rattle.acceptance.specs.Checks.{Check, ◌unless◌, First, Checked, up_to}

-- no check applies
abbrev pub Passes : List Check → Type 0
Passes [] = Unit {0}
Passes ((e unless P) ∷ cs) = P × Passes cs

pub first_none : (cs : List Check) → Passes cs → First cs None
first_none [] p = refl
first_none ((e unless P) ∷ cs) p = inr (p.0, first_none cs p.1)

pub none_first : (cs : List Check) → First cs None → Passes cs
none_first [] f = tt
none_first ((e unless P) ∷ cs) (inl f) = let q = f.1 in absurd cc
none_first ((e unless P) ∷ cs) (inr f) = (f.0, none_first cs f.1)

pub first_behind : (xs ys : List Check) (r : Option Rejection) → Passes xs → First ys r → First (xs ++ ys) r
first_behind [] ys r p f = f
first_behind ((e unless P) ∷ xs) ys r p f = inr (p.0, first_behind xs ys r p.1 f)

pub first_before : (xs ys : List Check) (e : Rejection) → First xs (Some e) → First (xs ++ ys) (Some e)
first_before [] ys e f = let q : ◌≡◌ {A = Option Rejection} (Some e) None = f in absurd cc
first_before ((d unless P) ∷ xs) ys e (inl f) = inl f
first_before ((d unless P) ∷ xs) ys e (inr f) = inr (f.0, first_before xs ys e f.1)

pub passes_both : (xs ys : List Check) → Passes xs → Passes ys → Passes (xs ++ ys)
passes_both [] ys p q = q
passes_both ((e unless P) ∷ xs) ys p q = (p.0, passes_both xs ys p.1 q)

pub passes_front : (xs ys : List Check) → Passes (xs ++ ys) → Passes xs
passes_front [] ys p = tt
passes_front ((e unless P) ∷ xs) ys p = (p.0, passes_front xs ys p.1)

pub passes_back : (xs ys : List Check) → Passes (xs ++ ys) → Passes ys
passes_back [] ys p = p
passes_back ((e unless P) ∷ xs) ys p = passes_back xs ys p.1

-- ---- the checks of each number

pub passes_each : (n : ℕ) (f : ℕ → List Check) → ((i : ℕ) → i < n → Passes (f i)) → Passes (up_to n f)
passes_each zero f h = tt
passes_each (suc n) f h = passes_both (up_to n f) (f n) (passes_each n f (λ i l. h i (omega arith))) (h n (omega arith))

pub each_passes : (n : ℕ) (f : ℕ → List Check) → Passes (up_to n f) → (i : ℕ) → i < n → Passes (f i)
each_passes zero f p i l = absurd (omega arith)
each_passes (suc n) f p i l =
    ⊎_elim
    (λ e. subst (λ j. Passes (f j)) (sym e) (passes_back (up_to n f) (f n) p))
    (λ e. each_passes n f (passes_front (up_to n f) (f n) p) i (omega (arith, e)))
    (cases_eq i n)

pub first_each : (n : ℕ) (f : ℕ → List Check) (i : ℕ) (e : Rejection) → i < n → ((j : ℕ) → j < i → Passes (f j)) → First (f i) (Some e) → First (up_to n f) (Some e)
first_each zero f i e l h p = absurd (omega arith)
first_each (suc n) f i e l h p =
    ⊎_elim
    (λ q. first_behind (up_to n f) (f n) (Some e) (passes_each n f (λ j m. h j (omega (arith, q)))) (subst (λ j. First (f j) (Some e)) q p))
    (λ q. first_before (up_to n f) (f n) e (first_each n f i e (omega (arith, q)) h p))
    (cases_eq i n)

-- ---- one answer

pub first_one : (cs : List Check) (r s : Option Rejection) → First cs r → First cs s → r ≡ s
first_one [] r s p q = p ∙ sym q
first_one ((e unless P) ∷ cs) r s (inl p) (inl q) = p.1 ∙ sym q.1
first_one ((e unless P) ∷ cs) r s (inl p) (inr q) = absurd (p.0 q.0)
first_one ((e unless P) ∷ cs) r s (inr p) (inl q) = absurd (q.0 p.0)
first_one ((e unless P) ∷ cs) r s (inr p) (inr q) = first_one cs r s p.1 q.1

-- ---- checks one by one

-- where the first test passes, those behind it decide
pub checked_next : {P : Type 0} {holds : Bool} (e : Rejection) (cs : List Check) (r : Result (Unit {0}) Rejection) → Decides holds P → holds ≡ true → Checked cs r → Checked ((e unless P) ∷ cs) r
unfolding Checked
checked_next e cs (Ok u) t h f = inr (t.0 h, f)
checked_next e cs (Err d) t h f = inr (t.0 h, f)

-- where it does not, it rejects
pub checked_broken : {P : Type 0} {holds : Bool} (e d : Rejection) (cs : List Check) (r : Result (Unit {0}) Rejection) → Decides holds P → (holds ≡ false) × (d ≡ e) → IsErrAnd r (λ y. y ≡ d) → Checked ((e unless P) ∷ cs) r
unfolding Checked
checked_broken {holds = holds} e d cs r t n i = let p = err_from_is_err_and r i in rw p.1 (inl (not_from_Decides holds t n.0, ap Some (p.2 ∙ n.1)))

-- a test that is the last
pub checked_last : {P : Type 0} (e : Rejection) (holds : Bool) (r : Result (Unit {0}) Rejection) → Decides holds P → MatchResult r (λ _. holds ≡ true) (λ d. (holds ≡ false) × (d ≡ e)) → Checked ((e unless P) ∷ []) r
unfolding Checked
checked_last e holds (Ok u) t m = inr (t.0 m, refl)
checked_last e holds (Err d) t m = inl (not_from_Decides holds t m.0, ap Some m.1)

-- ---- lists of checks

pub checked_none : (r : Result (Unit {0}) Rejection) (u : Unit {0}) → r ≡ Ok u → (cs : List Check) → Checked cs r → Passes cs
unfolding Checked
checked_none r u e cs c = none_first cs (subst (Checked cs) e c)

pub passes_checked : (cs : List Check) (u : Unit {0}) → Passes cs → Checked cs (Ok u)
unfolding Checked
passes_checked cs u p = first_none cs p

-- those in front pass, and those behind decide
pub checked_behind : (xs ys : List Check) (r : Result (Unit {0}) Rejection) → Passes xs → Checked ys r → Checked (xs ++ ys) r
unfolding Checked
checked_behind xs ys (Ok u) p c = first_behind xs ys None p c
checked_behind xs ys (Err e) p c = first_behind xs ys (Some e) p c

-- a rejection that is handed on
pub checked_before : (xs ys : List Check) (q r : Result (Unit {0}) Rejection) (e : Rejection) → q ≡ Err e → IsErrAnd r (λ y. y ≡ e) → Checked xs q → Checked (xs ++ ys) r
unfolding Checked
checked_before xs ys q r e h i c = let p = err_from_is_err_and r i in rw (p.1, p.2) (first_before xs ys e (subst (Checked xs) h c))

pub checked_each : (n : ℕ) (f : ℕ → List Check) (i : ℕ) (q r : Result (Unit {0}) Rejection) (e : Rejection) → i < n → ((j : ℕ) → j < i → Passes (f j)) → q ≡ Err e → IsErrAnd r (λ y. y ≡ e) → Checked (f i) q → Checked (up_to n f) r
unfolding Checked
checked_each n f i q r e l h k a c = let p = err_from_is_err_and r a in rw (p.1, p.2) (first_each n f i e l h (subst (Checked (f i)) k c))
