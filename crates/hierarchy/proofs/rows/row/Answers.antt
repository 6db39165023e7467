use Rattle.std.proofs.Common.{◌≡◌, ℕ, ◌<◌, ◌^◌, ◌∙◌, List, ◌∷◌, rules, sym, subst, arith}
use Rattle.sets.specs.declared.NumberSet.{NumberSet}
use Rattle.sets.specs.Members.{Bit, In, members}
use Rattle.sets.proofs.Gathering.{Gathered, gathered_more, gathered_next, gathered_all}
use Rattle.hierarchy.specs.Order.{Below, links_of}
use Rattle.hierarchy.specs.declared.links.Links.{Links}
use Rattle.hierarchy.specs.Linking.{linked}
use Rattle.hierarchy.specs.LinkingLemmas.{falling}
use Rattle.hierarchy.proofs.Walks.{only}
use Rattle.hierarchy.proofs.Parts.{row_done}
use Rattle.hierarchy.proofs.rows.row.Goals as goal

-- a number that comes next is directly above, and so lower
lower : (l : Links) (n x : ℕ) (start s above all : NumberSet) (before rest : List ℕ) → s ≡ above → above ≡ links_of (linked l) n → before ≡ x ∷ rest → Gathered (Below (linked l)) start (members s) before all → x < n
lower l n x start s above all before rest i a e g = (falling l).1 n x (subst (In x) (i ∙ a) (gathered_next (Below (linked l)) start s all before rest x e g))

pub offset_bounds-of-lower : goal.offset_bounds-of-lower
offset_bounds-of-lower c =
    let p = c.requires.0 in
    let n = (falling c.args.links.now).0 in
    let l = lower c.args.links.now c.args.number c.in-Some.lower _ _ _ _ _ _ c.into_iter-lower-iterator.ensures.into_iter_gives c.above-lower-items.ensures c.in-Some.ensures.steps c.loop-lower.invariant in
    search (rules, arith)

pub bounds-of-lower : goal.bounds-of-lower
bounds-of-lower c =
    let p = c.requires.0 in
    let n = (falling c.args.links.now).0 in
    let l = lower c.args.links.now c.args.number c.in-Some.lower _ _ _ _ _ _ c.into_iter-lower-iterator.ensures.into_iter_gives c.above-lower-items.ensures c.in-Some.ensures.steps c.loop-lower.invariant in
    omega arith

pub loop-lower-preserved : goal.loop-lower-preserved
loop-lower-preserved c =
    let b = c.in-Some.lower in
    let told = λ (k : ℕ). c.requires.1 b k (lower c.args.links.now c.args.number b _ _ _ _ _ _ c.into_iter-lower-iterator.ensures.into_iter_gives c.above-lower-items.ensures c.in-Some.ensures.steps c.loop-lower.invariant) in
    let f = c.from.ensures in
    gathered_more (Below (linked c.args.links.now)) _ _ _ _ b _ _ c.from.result c.in-Some.ensures.steps c.loop-lower.invariant
    (λ k. (λ h. (told k).0 (subst (Bit k) f h), λ h. subst (Bit k) (sym f) ((told k).1 h)))
    c.union-row.ensures

pub returns : goal.returns
returns c =
    let links = linked c.args.links.now in
    let n = c.args.number in
    let p = c.requires.0 in
    let l = (falling c.args.links.now).0 in
    let i = c.into_iter-lower-iterator.ensures.into_iter_gives in
    let w = subst (λ (s : NumberSet). s.bits < 2 ^ 64) (sym i) (omega arith) in
    row_done links n c.insert.new.self c.into_iter-lower-iterator.result.left c.loop-lower.row p (only c.empty-row.result c.insert.new.self n (omega arith) c.empty-row.ensures.members c.insert.ensures)
    (i ∙ c.above-lower-items.ensures)
    (gathered_all (Below links) c.insert.new.self _ _ _ w c.in-None.ensures.steps.0 c.loop-lower.invariant)
