use Rattle.std.proofs.Common.{◌∷◌}
use Rattle.book.specs.declared.phase.Phase.TheVariants.{Views}
use Rattle.book.specs.Layout.{names, controlled, terms_fields}
use Rattle.book.proofs.Taken.{length_left}
use Rattle.book.proofs.making.ViewFromFields.from_fields.Goals as goal

-- three fields were taken, and the others are still there
pub terms_of-requires : goal.terms_of-requires
terms_of-requires c =
    let f = c.args.fields in
    let a = c.controlled.new.self in
    let b = c.numbers.new.self in
    let d = c.numbers-2.new.self in
    let l1 = length_left controlled (names Views ∷ names Views ∷ terms_fields) f.map f.rest.now a.map a.rest.now c.controlled.ensures.moved c.requires in
    let l2 = length_left (names Views) (names Views ∷ terms_fields) a.map a.rest.now b.map b.rest.now c.numbers.ensures.moved l1 in
    length_left (names Views) terms_fields b.map b.rest.now d.map d.rest.now c.numbers-2.ensures.moved l2
