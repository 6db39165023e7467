use Rattle.std.proofs.Common.{◌≡◌, ◌+◌, ◌≤◌, length, Err, sym, refl, ◌∙◌, ap, ap₂, subst, rules}
use Rattle.std.proofs.lemmas.Result.{err_from_is_err_and, MatchResult-at_ok, MatchResult-at_err}
use Rattle.book.specs.declared.position.Position.{Position}
use Rattle.book.specs.Form.{broken}
use Rattle.book.specs.Reading.{Hands}
use Rattle.book.proofs.Mapped.{mapped_ok, mapped_err}
use Rattle.book.proofs.Handing.{some_left, cut_left, inside, part_length, handed}
use Rattle.book.proofs.reader.Reader.next.Goals as goal

pub returns-in_err-next-clause-handed : goal.returns-in_err-next-clause-handed
returns-in_err-next-clause-handed c =
    let s = c.args.self.now in
    let at = s.position.at in
    let e = mapped_err _ c.cut.result c.map_err.result c.in_err-next.field-0.0 c.map_err.ensures.cases c.in_err-next.was in
    let f : c.in_err-next.field-0.0 ≡ record { refusal = e.0; place = at } = let q = e.2 in search rules in
    let r = err_from_is_err_and c.from_residual.result c.from_residual.ensures.1 in
    let cutting = MatchResult-at_err _ _ e.0 e.1 c.cut.ensures in
    subst (λ x. Hands s.book.now s.position x s.position) (sym (r.1 ∙ ap Err (r.2 ∙ f))) (
      some_left s.book.now at s.within (sym c.is_empty.ensures ∙ c.if-is_empty.false),
      cut_left s.book.now at s.within s.position.phase s.position.number (broken e.0) cutting,
      refl,
      refl,
    )

pub overflow_add-self : goal.overflow_add-self
overflow_add-self c =
    let s = c.args.self.now in
    let at = s.position.at in
    let cutting = MatchResult-at_ok _ _ _ (mapped_ok _ c.cut.result c.map_err.result _ c.map_err.ensures.cases c.in_ok-next.was) c.cut.ensures in
    let e : at + c.in_ok-next.size ≤ length s.book.now = inside s.book.now at s.within s.position.phase s.position.number c.in_ok-next.next.phase c.in_ok-next.size cutting.0 in
    search rules

pub invariant_of-self : goal.invariant_of-self
invariant_of-self c =
    let s = c.args.self.now in
    let cutting = MatchResult-at_ok _ _ _ (mapped_ok _ c.cut.result c.map_err.result _ c.map_err.ensures.cases c.in_ok-next.was) c.cut.ensures in
    record { within = inside s.book.now s.position.at s.within s.position.phase s.position.number c.in_ok-next.next.phase c.in_ok-next.size cutting.0 }

pub returns-clause-handed : goal.returns-clause-handed
returns-clause-handed c =
    let s = c.args.self.now in
    let at = s.position.at in
    let p = s.position.phase in
    let n = s.position.number in
    let q = c.in_ok-next.next.phase in
    let size = c.in_ok-next.size in
    let e = MatchResult-at_ok _ _ _ (mapped_ok _ c.cut.result c.map_err.result _ c.map_err.ensures.cases c.in_ok-next.was) c.cut.ensures in (
      handed s.book.now at s.within p n q size e.0,
      ap₂ (λ k m. let s : Position = record { at = at + k; phase = q; number = m + 1 } in s) (sym (part_length s.book.now at s.within p n q size e.0)) e.1,
    )
