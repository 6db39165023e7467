-- Checks that pass and rules that hold are the same, and a book has one judgement.
use Rattle.std.proofs.Common.{◌≡◌, ℕ, ◌<◌, List, length, Some, None, Ok, Err, ap, subst, inl, inr, arith}
use Rattle.sets.specs.Members.{In}
use Rattle.book.specs.declared.contents.Records.{Records}
use Rattle.book.specs.Declarations.{view_at, Declares}
use Rattle.book.proofs.Declaring.{declares}
use Rattle.acceptance.specs.declared.rejection.Rejection.{Rejection}
use Rattle.acceptance.specs.Rules.{Rules}
use Rattle.acceptance.specs.Checks.{First, up_to, of_view, of_base, of_pair, of_view_and_bases, checks}
use Rattle.acceptance.specs.Judgement.{Judged, OneJudgement, AcceptedByRules}
use Rattle.acceptance.proofs.Firsts.{Passes, first_none, none_first, passes_both, passes_front, passes_back, passes_each, each_passes, first_one}

-- ---- checks and rules

pub passes_rules : (c : Records) → Declares c → Passes (checks c) → Rules c
passes_rules c d p =
    let n = length c.views in
    let views = up_to n (of_view_and_bases c) in
    let pairs = up_to n (λ i. up_to n (of_pair c i)) in
    let of_the_view : (i : ℕ) → i < n → Passes (of_view_and_bases c i) = each_passes n (of_view_and_bases c) (passes_front views pairs p) in
    let own : (i : ℕ) → i < n → Passes (of_view c (view_at c i)) = λ i l. passes_front (of_view c (view_at c i)) (up_to n (of_base c (view_at c i))) (of_the_view i l) in
    let base : (i b : ℕ) → i < n → In b (view_at c i).bases → Passes (of_base c (view_at c i) b) =
    λ i b l h. each_passes n (of_base c (view_at c i)) (passes_back (of_view c (view_at c i)) (up_to n (of_base c (view_at c i))) (of_the_view i l)) b (let m = d.bases i b h in omega arith) in
    record {
      one_right = λ i l. (own i l).0;
      own_operations = λ i l. (own i l).1.0;
      assignable = λ i l. (own i l).1.1.0;
      virtual = λ i l. (own i l).1.1.1.0;
      types = λ i b l h. (base i b l h).0 h;
      restrictions = λ i b l h. (base i b l h).1.0 h;
      requirements = λ i b l h. (base i b l h).1.1.0 h;
      rights = λ i b l h. (base i b l h).1.1.1.0 h;
      no_clash = λ i j l m. (each_passes n (of_pair c i) (each_passes n (λ i. up_to n (of_pair c i)) (passes_back views pairs p) i (omega arith)) j m).0 l;
    }

pub rules_pass : (c : Records) → Rules c → Passes (checks c)
rules_pass c r =
    let n = length c.views in
    passes_both (up_to n (of_view_and_bases c)) (up_to n (λ i. up_to n (of_pair c i)))
    (passes_each n (of_view_and_bases c)
    (λ i l.
    passes_both (of_view c (view_at c i)) (up_to n (of_base c (view_at c i))) (r.one_right i l, (r.own_operations i l, (r.assignable i l, (r.virtual i l, tt))))
    (passes_each n (of_base c (view_at c i)) (λ b m. (r.types i b l, (r.restrictions i b l, (r.requirements i b l, (r.rights i b l, tt))))))))
    (passes_each n (λ i. up_to n (of_pair c i)) (λ i l. passes_each n (of_pair c i) (λ j m. (λ k. r.no_clash i j k m, tt))))

pub accepted_by_rules : AcceptedByRules
accepted_by_rules bs c = (
  λ p. (p.0, passes_rules c (declares bs c p.0) (none_first (checks c) p.1)),
  λ p. (p.0, first_none (checks c) (rules_pass c p.1)),
)

-- ---- one judgement

-- what was accepted cannot be rejected
accepted_not_rejected : (bs : List ℕ) (c : Records) (e : Rejection) → Judged bs (Ok c) → Judged bs (Err e) → ⊥
accepted_not_rejected bs c e p (inl q) = cc (p.0, q.1)
accepted_not_rejected bs c e p (inr q) =
    let s : c ≡ q.0 = cc (p.0, q.1) in
    cc (first_one (checks q.0) None (Some e) (subst (λ c. First (checks c) None) s p.1) q.2)

one_rejection : (bs : List ℕ) (d e : Rejection) → Judged bs (Err d) → Judged bs (Err e) → d ≡ e
one_rejection bs d e (inl p) (inl q) = cc (p.1, p.2, q.1, q.2)
one_rejection bs d e (inl p) (inr q) = cc (p.1, q.1)
one_rejection bs d e (inr p) (inl q) = cc (p.1, q.1)
one_rejection bs d e (inr p) (inr q) =
    let s : p.0 ≡ q.0 = cc (p.1, q.1) in
    cc (first_one (checks q.0) (Some d) (Some e) (subst (λ c. First (checks c) (Some d)) s p.2) q.2)

pub one_judgement : OneJudgement
one_judgement bs (Ok c) (Ok d) p q = cc (p.0, q.0)
one_judgement bs (Ok c) (Err e) p q = absurd (accepted_not_rejected bs c e p q)
one_judgement bs (Err d) (Ok c) p q = absurd (accepted_not_rejected bs c d q p)
one_judgement bs (Err d) (Err e) p q = ap Err (one_rejection bs d e p q)
