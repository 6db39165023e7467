use Rattle.std.proofs.Common.{◌+◌, ◌/◌, ◌^◌, length, sym, ap, ◌∙◌, subst, arith}
use Rattle.std.proofs.lemmas.Bool.{eq-eqb, ne_eqb}
use Rattle.book.proofs.Spans.{Counted, counted_more, counted_pass, counted_all, unfit_past, unfit_first}
use Rattle.book.proofs.layout.measure.Goals as goal
use Rattle.book.proofs.layout.measure.Goals.{then-left-eq1, else-left-eq1, then-left-gt0-via-then-left-gt0, then-left-gt0-via-else-left-gt0+then-lacks_type}

pub loop-width-preserved : goal.loop-width-preserved
loop-width-preserved c =
    let ws = c.widths-fields.result.now in
    let l = c.loop-width in
    elim c.if-left-eq1.branch [
      | then-left-eq1 w ↦
          subst (λ size. Counted ws c.args.map (l.width-index + 1) size (l.left / 2)) (sym w.size-is)
          (subst (λ n. Counted ws c.args.map (l.width-index + 1) (l.size + n) (l.left / 2)) (sym w.from-size.ensures)
          (counted_more ws c.args.map l.width-index l.size l.left l.invariant c.loop-width-test.true (eq-eqb _ _ w.if-left-eq1.true)))
      | else-left-eq1 w ↦
          subst (λ size. Counted ws c.args.map (l.width-index + 1) size (l.left / 2)) (sym w.size-is)
          (counted_pass ws c.args.map l.width-index l.size l.left l.invariant c.loop-width-test.true (ne_eqb _ _ w.if-left-eq1.false))
    ]

pub returns-then-left-gt0 : goal.returns-then-left-gt0
returns-then-left-gt0 c =
    let l = c.loop-width in
    let all = counted_all c.widths-fields.result.now c.args.map l.width-index l.size l.left l.invariant c.loop-width-test.false in
    let past = all.1 ∙ ap (λ ws. c.args.map / 2 ^ length ws) c.widths-fields.ensures in
    elim c.then-left-gt0.branch [
      | then-left-gt0-via-then-left-gt0 w ↦ let h = w.if-left-gt0.true in unfit_past c.args.phase c.args.map (omega arith)
      | then-left-gt0-via-else-left-gt0+then-lacks_type w ↦ unfit_first c.args.phase c.args.map (sym w.lacks_type.ensures ∙ w.if-lacks_type.true)
    ]
