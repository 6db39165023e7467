use Rattle.std.proofs.Common.{◌≡◌, ◌<◌, length, get_or, drop, IfOk, Some, Ok, Err, sym, refl, ap, ◌∙◌, subst, arith, rules, w8, Fits, MatchResult, ℕ, List, Result}
use Rattle.std.proofs.lemmas.Result.{err_from_is_err_and}
use Rattle.book.specs.Layout.{limit, layout}
use Rattle.book.specs.Contents.{nothing, count, filed, phase_of}
use Rattle.book.specs.Form.{filing, after_opening, reading, pieces, record_from}
use Rattle.book.specs.Reading.{Handed, Hands, passed}
use Rattle.book.specs.Declarations.{Declares, WithinLimits}
use Rattle.book.specs.FormLaws.{Exactly, PassesAsEncoded, PartsAreTheBook}
use Rattle.book.specs.declared.refusal.Fault.{Fault}
use Rattle.book.specs.declared.contents.Records.{Records}
use Rattle.book.proofs.Mapped.{told_ok, told_err}
use Rattle.book.proofs.Declaring.{declares}
use Rattle.book.proofs.Tracking.{within_none, within_more}
use Rattle.book.proofs.Encoded.{passes_as_encoded, exactly}
use Rattle.book.proofs.Fieldwise.{phase_from}
use Rattle.book.proofs.Parts.{parts_are_the_book}
use Rattle.book.proofs.Steps.{front, begins, going_there, ends, breaks, part_whole, part_room, fails, goes_on}
use Rattle.book.proofs.read.read.Goals as goal
use Rattle.book.proofs.read.read.Goals.{In-Some}

-- all that is promised of a refused book
refused : (book : List ℕ) → ((i : ℕ) → Fits w8 (get_or book i 0)) → (r : Result Records Fault) (f : Fault) → r ≡ Err f → reading book ≡ Err f
    → record {
      records : MatchResult r (λ t. reading book ≡ Ok t) (λ f. reading book ≡ Err f);
      exactly : MatchResult r (λ t. Exactly book (Ok t)) (λ f. Exactly book (Err f));
      declared : IfOk r (λ t. Declares t);
      within : IfOk r (λ t. WithinLimits t);
      encoded : PassesAsEncoded;
      parts : PartsAreTheBook;
    }
refused book bytes r f e read = record {
  records = subst (λ r. MatchResult r (λ t. reading book ≡ Ok t) (λ f. reading book ≡ Err f)) (sym e) read;
  exactly = subst (λ r. MatchResult r (λ t. Exactly book (Ok t)) (λ f. Exactly book (Err f))) (sym e) (exactly book bytes (Err f) read);
  declared = subst (λ r. IfOk r (λ t. Declares t)) (sym e) tt;
  within = subst (λ r. IfOk r (λ t. WithinLimits t)) (sym e) tt;
  encoded = passes_as_encoded;
  parts = parts_are_the_book;
}

pub loop-part-init : goal.loop-part-init
loop-part-init c =
    let book = c.args.book.now in
    let r = c.new-reader.result in (
      c.new-reader.ensures.0,
      going_there book (reading book) (front book) r.position nothing c.empty-records.result (sym c.new-reader.ensures.1) (sym c.empty-records.ensures)
          (begins book (told_ok _ c.check_opening.result c.map_err.result _ _ c.map_err.ensures.cases c.check_opening.ensures _ c.in_ok-map_err.was).0),
      subst WithinLimits (sym c.empty-records.ensures) within_none,
    )

pub returns-in_err-map_err : goal.returns-in_err-map_err
returns-in_err-map_err c =
    let book = c.args.book.now in
    let e = told_err _ c.check_opening.result c.map_err.result _ _ c.map_err.ensures.cases c.check_opening.ensures c.in_err-map_err.field-0.0 c.in_err-map_err.was in
    let f : c.in_err-map_err.field-0.0 ≡ record { refusal = e.0; place = 0 } = let q = e.2 in search rules in
    let r = err_from_is_err_and c.from_residual.result c.from_residual.ensures.1 in
    refused book c.type_inv.book c.from_residual.result r.0 r.1 (ap (λ o. filing nothing (after_opening o book)) e.1 ∙ ap Err (sym (r.2 ∙ f)))

pub returns-in_err-part : goal.returns-in_err-part
returns-in_err-part c =
    let book = c.args.book.now in
    let r = c.loop-part.reader in
    let f = c.in_err-part.field-0.0 in
    let h = subst (λ book. Hands book r.position (Err f) c.next.new.self.position) c.loop-part.invariant.0 c.in_err-part.ensures.handed in
    let e = err_from_is_err_and c.from_residual-in_err-part.result c.from_residual-in_err-part.ensures.1 in
    let broke = breaks book r.position c.loop-part.records (reading book) c.loop-part.invariant.1 f (h.0, h.1, h.2, refl) in
    refused book c.type_inv.book c.from_residual-in_err-part.result e.0 e.1 (broke ∙ ap Err (sym e.2))

-- what the reader handed out, and where it then stood
handed : (c : In-Some)
    → Handed c.args.book.now c.loop-part.reader.position.at c.loop-part.reader.position.phase c.loop-part.reader.position.number
    c.in-Some.part.phase c.in-Some.part.place c.in-Some.part.bytes.now
    × (c.next.new.self.position ≡ passed c.loop-part.reader.position c.in-Some.part.phase c.in-Some.part.bytes.now)
handed c =
    let r = c.loop-part.reader in
    let t = c.next.new.self.position in
    subst (λ book. Hands book r.position (Ok (Some c.in-Some.part)) t) c.loop-part.invariant.0
    (subst (λ o. Hands r.book.now r.position (Ok o) t) c.in-Some.is c.in_ok-part.ensures.handed)

pub made_of-requires : goal.made_of-requires
made_of-requires c =
    let book = c.args.book.now in
    let part = c.in-Some.part in
    part_whole book c.loop-part.reader.position c.loop-part.records (reading book) c.loop-part.invariant.1 part.phase part.place part.bytes.now
    (handed (goal.at.made_of-requires c).In-Some).0

pub file-requires : goal.file-requires
file-requires c =
    let book = c.args.book.now in
    let part = c.in-Some.part in
    let all = c.loop-part.records in
    let fs = pieces (layout part.phase) (get_or part.bytes.now 1 0) (drop 2 part.bytes.now) in
    let kind : part.phase ≡ phase_of c.in_ok-record.record = sym (ap phase_of (told_ok _ c.made_of.result c.map_err-in-Some.result _ _ c.map_err-in-Some.ensures.cases c.made_of.ensures _ c.in_ok-record.was).1 ∙ phase_from part.phase part.place fs) in
    subst (λ q. count q all < limit q) kind
    (part_room book c.loop-part.reader.position all (reading book) c.loop-part.invariant.1 part.phase part.place part.bytes.now (handed (goal.at.file-requires c).In-Some).0)

pub loop-part-preserved : goal.loop-part-preserved
loop-part-preserved c =
    let book = c.args.book.now in
    let s = c.loop-part.reader.position in
    let part = c.in-Some.part in
    let all = c.loop-part.records in
    let h = handed (goal.at.loop-part-preserved c).In-Some in
    let told = told_ok _ c.made_of.result c.map_err-in-Some.result _ _ c.map_err-in-Some.ensures.cases c.made_of.ensures _ c.in_ok-record.was in
    let fs = pieces (layout part.phase) (get_or part.bytes.now 1 0) (drop 2 part.bytes.now) in
    let r = record_from part.phase part.place fs in
    let room = subst (λ q. count q all < limit q) (sym (phase_from part.phase part.place fs)) (part_room book s all (reading book) c.loop-part.invariant.1 part.phase part.place part.bytes.now h.0) in
    let filed_is : c.file.new.self ≡ filed all r = c.file.ensures ∙ ap (filed all) told.1 in (
      c.next.ensures.book ∙ c.loop-part.invariant.0,
      going_there book (reading book) (passed s part.phase part.bytes.now) c.next.new.self.position (filed all r) c.file.new.self (sym h.1) (sym filed_is)
          (goes_on book s all (reading book) c.loop-part.invariant.1 part.phase part.place part.bytes.now h.0 told.0),
      subst WithinLimits (sym filed_is) (within_more all r c.loop-part.invariant.2 room),
    )

pub returns-in_err-record : goal.returns-in_err-record
returns-in_err-record c =
    let book = c.args.book.now in
    let part = c.in-Some.part in
    let e = told_err _ c.made_of.result c.map_err-in-Some.result _ _ c.map_err-in-Some.ensures.cases c.made_of.ensures c.in_err-record.field-0.0 c.in_err-record.was in
    let f : c.in_err-record.field-0.0 ≡ record { refusal = e.0; place = part.place } = let q = e.2 in search rules in
    let r = err_from_is_err_and c.from_residual-in_err-record.result c.from_residual-in_err-record.ensures.1 in
    let read =
    fails book c.loop-part.reader.position c.loop-part.records (reading book) c.loop-part.invariant.1 part.phase part.place part.bytes.now
    (handed (goal.at.returns-in_err-record c).In-Some).0 e.0 e.1 in
    refused book c.type_inv.book c.from_residual-in_err-record.result r.0 r.1 (read ∙ ap Err (sym (r.2 ∙ f)))

pub returns : goal.returns
returns c =
    let book = c.args.book.now in
    let r = c.loop-part.reader in
    let t = c.next.new.self.position in
    let end = (subst (λ o. Hands r.book.now r.position (Ok o) t) c.in_default.is c.in_ok-part.ensures.handed).0 in
    let same = ap length c.loop-part.invariant.0 in
    let all = c.loop-part.records in
    let read : reading book ≡ Ok all = ends book r.position all (reading book) c.loop-part.invariant.1 (omega arith) in
    record {
      records = read;
      exactly = exactly book c.type_inv.book (Ok all) read;
      declared = declares book all read;
      within = c.loop-part.invariant.2;
      encoded = passes_as_encoded;
      parts = parts_are_the_book;
    }
