-- The rows come out as they must: one test over all of them, which antt computes.
use Rattle.std.proofs.Common.{◌≡◌, ℕ, Bool, true, false, ◌&&◌, eqb, List, [], ◌∷◌, Some, None, Option, Result, refl, ap}
use Rattle.std.proofs.lemmas.Bool.{and_parts, eqb-true, false≢true}
use Rattle.book.specs.declared.refusal.Fault.{Fault}
use Rattle.book.specs.declared.contents.Records.{Records}
use Rattle.book.specs.Form.{reading}
use Rattle.worked_cases.specs.Table.{Outcome, accepted, rejected, outcome_of, Row, ComesOut, EachComesOut, rows, AllComeOut}
use Rattle.worked_cases.proofs.Judging.{judgement_of, read_sized, judged_of}

-- two numbers of another view are the same
abbrev pub same_other : Option ℕ → Option ℕ → Bool
same_other None None = true
same_other None (Some b) = false
same_other (Some a) None = false
same_other (Some a) (Some b) = eqb a b

same_other_lem : (a b : Option ℕ) → same_other a b ≡ true → a ≡ b
same_other_lem None None e = refl
same_other_lem None (Some b) e = absurd (false≢true e)
same_other_lem (Some a) None e = absurd (false≢true e)
same_other_lem (Some a) (Some b) e = ap Some (eqb-true a b e)

-- two outcomes are the same
abbrev pub same_outcome : Outcome → Outcome → Bool
same_outcome accepted accepted = true
same_outcome accepted (rejected n p o) = false
same_outcome (rejected n p o) accepted = false
same_outcome (rejected n p o) (rejected m q r) = eqb n m && eqb p q && same_other o r

same_outcome_lem : (a b : Outcome) → same_outcome a b ≡ true → a ≡ b
same_outcome_lem accepted accepted e = refl
same_outcome_lem accepted (rejected n p o) e = absurd (false≢true e)
same_outcome_lem (rejected n p o) accepted e = absurd (false≢true e)
same_outcome_lem (rejected n p o) (rejected m q r) e =
    let x = and_parts (eqb n m && eqb p q) (same_other o r) e in
    let y = and_parts (eqb n m) (eqb p q) x.0 in
    let u = eqb-true n m y.0 in
    let v = eqb-true p q y.1 in
    let w = same_other_lem o r x.1 in
    cc

-- what was read is judged as the row says
abbrev pub comes_out_of : Result Records Fault → Outcome → Bool
comes_out_of r o = read_sized r && same_outcome (outcome_of (judgement_of r)) o

-- each row comes out
abbrev pub each_comes_out : List Row → Bool
each_comes_out [] = true
each_comes_out (row ∷ rs) = comes_out_of (reading row.book) row.outcome && each_comes_out rs

comes_out : (row : Row) (r : Result Records Fault) → reading row.book ≡ r → comes_out_of r row.outcome ≡ true → ComesOut row
comes_out row r e h =
    let p = and_parts (read_sized r) (same_outcome (outcome_of (judgement_of r)) row.outcome) h in
    (judgement_of r, judged_of row.book r e p.0, same_outcome_lem (outcome_of (judgement_of r)) row.outcome p.1)

-- rows for which the test passes come out as they must
each_comes_out_lem : (rs : List Row) → each_comes_out rs ≡ true → EachComesOut rs
each_comes_out_lem [] h = tt
each_comes_out_lem (row ∷ rs) h =
    let p = and_parts (comes_out_of (reading row.book) row.outcome) (each_comes_out rs) h in
    (comes_out row (reading row.book) refl p.0, each_comes_out_lem rs p.1)

-- the test passes for the rows of the table
computed : each_comes_out rows ≡ true
computed = refl

pub all_come_out : AllComeOut
unfolding AllComeOut
all_come_out = each_comes_out_lem rows computed
