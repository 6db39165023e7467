-- Looking for the first two views that clash.
use Rattle.std.proofs.Common.{◌≡◌, ℕ, ◌+◌, ◌<◌, ◌≤◌, ◌⊎◌, List, length, Some, None, sym, refl, ap, subst, inl, inr, ⊎_elim, arith}
use mathlib.Core.Logic.{∥∥₁_elim}
use mathlib.Core.HLevel.{⊥_prop}
use native.Mathlib.Bridge.{le_prop}
use Rattle.std.proofs.lemmas.List.{length-map}
use Rattle.std.proofs.lemmas.Bool.{cases_eq}
use Rattle.sets.specs.declared.NumberSet.{NumberSet}
use Rattle.hierarchy.specs.Order.{Below}
use Rattle.hierarchy.specs.Paths.{steps_from}
use Rattle.book.specs.declared.contents.Records.{Records}
use Rattle.book.specs.Declarations.{view_at}
use Rattle.acceptance.specs.Orders.{type_links}
use Rattle.acceptance.specs.declared.rejection.Rule.TheVariants.{Clashing}
use Rattle.acceptance.specs.declared.rejection.Rejection.{Rejection}
use Rattle.acceptance.specs.Rejections.{breach}
use Rattle.acceptance.specs.Rules.{Shared, Clash}
use Rattle.acceptance.specs.Checks.{First, up_to, of_pair, FirstClash}
use Rattle.acceptance.proofs.Firsts.{first_none, passes_each, first_each}

-- no pair before (i, j) clashes
abbrev pub Before : Records → ℕ → ℕ → Type 0
Before c i j = (a b : ℕ) → a < b → b < length c.views → (a < i) ⊎ ((a ≡ i) × (b < j)) → Clash c a b → ⊥

-- no type below n is shared
abbrev pub Unshared : Records → ℕ → ℕ → ℕ → Type 0
Unshared c i j n = (t : ℕ) → t < n → Shared c i j t → ⊥

pub before_more : (c : Records) (i j : ℕ) → Before c i j → (Clash c i j → ⊥) → Before c i (j + 1)
before_more c i j h n a b l m (inl e) = h a b l m (inl e)
before_more c i j h n a b l m (inr e) =
    ⊎_elim
    (λ q. let P : ℕ → Type 0 = λ y. Clash c i y → ⊥ in let x : Clash c i b → ⊥ = subst P (sym q) n in subst (λ y. Clash c y b → ⊥) (sym e.0) x)
    (λ q. h a b l m (inr (e.0, (let y = e.1 in omega (arith, q)))))
    (cases_eq b j)

-- a type that is below another is declared
declared_below : (links : List NumberSet) (a b : ℕ) → Below links a b → a < length links
declared_below links a b p = ∥∥₁_elim p le_prop steps_from

pub no_clash_unshared : (c : Records) (i j n : ℕ) → length c.types ≤ n → Unshared c i j n → Clash c i j → ⊥
no_clash_unshared c i j n l h k =
    ∥∥₁_elim k.1 ⊥_prop
    (λ s.
    let d = declared_below (type_links c) s.0 _ s.1.0 in
    let e = length-map c.types (λ t. t.supertypes) in
    h s.0 (omega arith) s.1)

-- ---- the checks of pairs

pub pairs_pass : (c : Records) → FirstClash c None → First (up_to (length c.views) (λ i. up_to (length c.views) (of_pair c i))) None
pairs_pass c h =
    let n = length c.views in
    first_none (up_to n (λ i. up_to n (of_pair c i))) (passes_each n (λ i. up_to n (of_pair c i)) (λ i l. passes_each n (of_pair c i) (λ j m. (λ k. h i j k m, tt))))

pub pairs_fail : (c : Records) (i j : ℕ) (e : Rejection) → e ≡ breach Clashing (view_at c i) (Some j) → FirstClash c (Some (i, j))
    → First (up_to (length c.views) (λ i. up_to (length c.views) (of_pair c i))) (Some e)
pairs_fail c i j e q h =
    let n = length c.views in
    let l = h.0 in
    let m = h.1 in
    first_each n (λ i. up_to n (of_pair c i)) i e (omega arith)
    (λ a k. passes_each n (of_pair c a) (λ b o. (λ p. h.3 a b p o (inl k), tt)))
    (first_each n (of_pair c i) j e m (λ b k. (λ p. h.3 i b p (omega arith) (inr (refl, k)), tt)) (inl (λ p. p l h.2, ap Some q)))
