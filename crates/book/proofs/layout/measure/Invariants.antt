use Rattle.book.proofs.Spans.{Counted}
use Rattle.book.proofs.layout.measure.Given as goal

abbrev pub invariant-loop-width : goal.invariant-loop-width
invariant-loop-width l = Counted l.fields l.map l.width-index l.size l.left
