-- All numbers at or above a number, computed along the links.
use Rattle.std.proofs.Common.{◌≡◌, ℕ, zero, suc, ◌-◌, ◌^◌, ◌<◌, Bool, true, false, cond, ltb, ◌⊎◌, List, length, sym, refl, subst, add-one, arith}
use lib.Bits.{bit_or}
use Rattle.std.proofs.lemmas.Bool.{ltb-true, ltb-false, both_ways}
use Rattle.sets.specs.declared.NumberSet.{NumberSet}
use Rattle.sets.specs.Members.{Bit, In, Iff}
use Rattle.sets.proofs.Membership as member
use Rattle.hierarchy.specs.Order.{links_of, Falling, Below}
use Rattle.hierarchy.proofs.Walks.{Walk, walk_start, walk_take, walk_pass, walk_done, walk_none}
use Rattle.worked_cases.proofs.Telling.{Tells, tells_also}
use Rattle.worked_cases.proofs.SetTests.{has, tells_has}

-- a set, with the links of i where i is in it
abbrev pub stepped : List NumberSet → ℕ → ℕ → ℕ
stepped links i seen = cond (has i seen) (bit_or seen (links_of links i).bits) seen

-- a set, with the links of each number below i that is in it, from the highest down
abbrev pub walked : List NumberSet → ℕ → ℕ → ℕ
walked links zero seen = seen
walked links (suc i) seen = walked links i (stepped links i seen)

-- the numbers at or above a, none where a is not declared
abbrev pub above : List NumberSet → ℕ → ℕ
above links a = cond (ltb a (length links)) (walked links (suc a) (2 ^ a)) 0

abbrev as_set : ℕ → NumberSet
as_set s = record { bits = s }

stepped_walks : (links : List NumberSet) (a i seen : ℕ) (b : Bool) → Falling links → has i seen ≡ b → Walk links a (suc i) (as_set seen) → Walk links a i (as_set (cond b (bit_or seen (links_of links i).bits) seen))
stepped_walks links a i seen true f e w =
    let p : suc i - 1 ≡ i = omega arith in
    let m : In (suc i - 1) (as_set seen) = subst (λ x. In x (as_set seen)) (sym p) ((tells_has i seen).decides.0 e) in
    subst (λ x. Walk links a x (as_set (bit_or seen (links_of links i).bits))) p
    (walk_take links a (suc i) (as_set seen) (as_set (bit_or seen (links_of links i).bits)) (links_of links (suc i - 1)) f (omega arith) w m refl
    (subst (λ x. (k : ℕ) → Iff (Bit k (bit_or seen (links_of links i).bits)) (Bit k seen ⊎ In k (links_of links x))) (sym p) (λ k. member.in_or k seen (links_of links i).bits)))
stepped_walks links a i seen false f e w =
    let p : suc i - 1 ≡ i = omega arith in
    subst (λ x. Walk links a x (as_set seen)) p
    (walk_pass links a (suc i) (as_set seen) (omega arith) w (λ h. both_ways (has i seen) e ((tells_has i seen).decides.1 (subst (λ x. Bit x seen) p h))))

walked_walks : (links : List NumberSet) (a i seen : ℕ) → Falling links → Walk links a i (as_set seen) → Walk links a 0 (as_set (walked links i seen))
walked_walks links a zero seen f w = w
walked_walks links a (suc i) seen f w = walked_walks links a i (stepped links i seen) f (stepped_walks links a i seen (has i seen) f refl w)

module _ (links : List NumberSet) (f : Falling links) where
  above_by : (a : ℕ) (b : Bool) → ltb a (length links) ≡ b → (k : ℕ) → Iff (Bit k (cond b (walked links (suc a) (2 ^ a)) 0)) (Below links a k)
  above_by a true e k =
      let l : a < length links = omega (arith, ltb-true a (length links) e) in
      let w : Walk links a (suc a) (as_set (2 ^ a)) = subst (λ x. Walk links a x (as_set (2 ^ a))) (add-one a) (walk_start links a (as_set (2 ^ a)) l (λ j. member.in_one j a)) in
      walk_done links a 0 (as_set (walked links (suc a) (2 ^ a))) (omega arith) (walked_walks links a (suc a) (2 ^ a) f w) k
  above_by a false e k = walk_none links a (as_set 0) (ltb-false a (length links) e) member.not_in_none k

  -- the set has what lies at or above
  pub in_above : (a k : ℕ) → Iff (Bit k (above links a)) (Below links a k)
  in_above a k = above_by a (ltb a (length links)) refl k

  pub tells_below : (a b : ℕ) → Tells (has b (above links a)) (Below links a b)
  tells_below a b = tells_also (in_above a b) (tells_has b (above links a))
