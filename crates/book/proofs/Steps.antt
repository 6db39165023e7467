-- A reading goes on record by record: what is left gives the whole.
use Rattle.std.proofs.Common.{◌≡◌, ℕ, zero, suc, ◌+◌, ◌-◌, ◌/◌, ◌<◌, ◌≤◌, min, true, false, List, [], ◌∷◌, length, get_or, take, drop, Some, None, Ok, Err, Result, sym, refl, ap, ◌∙◌, subst, ap₂, ⊎_elim, arith}
use Rattle.std.proofs.lemmas.List.{take-take, drop-take, drop-drop, drop_all, length-drop, get_or-take}
use Rattle.std.proofs.lemmas.Bool.{cases_Bool}
use Rattle.book.specs.declared.phase.Phase.{Phase}
use Rattle.book.specs.declared.phase.Phase.TheVariants.{Types}
use Rattle.book.specs.declared.refusal.Refusal.{Refusal}
use Rattle.book.specs.declared.refusal.Fault.{Fault}
use Rattle.book.specs.declared.position.Position.{Position}
use Rattle.book.specs.Layout.{Field, width, layout, limit, kind_of}
use Rattle.book.specs.declared.contents.Records.{Records}
use Rattle.book.specs.Contents.{Record, nothing, count, filed}
use Rattle.book.specs.Form.{marked, span, pieces, wrong, or_else, first_wrong, cut, record_from, State, prepended, after_cut, after_fields, records_in, filing, opening, after_opening, reading}
use Rattle.book.specs.FormLaws.{numbered}
use Rattle.book.specs.Reading.{Handed, Hands, passed}
use Rattle.book.proofs.Cuts.{Whole, cut_whole}
use Rattle.book.proofs.Pieces.{pieces_at, span_at, first_at}
use Rattle.book.proofs.Fieldwise.{phase_from}
use Rattle.book.proofs.Tracking.{Tracks, tracks_none, tracks_more, cut_tracks}

-- ---- fields lie inside their part

-- what a part has of fields that need no more bytes than it has
inside : (c : Records) (L : List Field) (m k : ℕ) (bs : List ℕ) → span L m ≤ k
    → (first_wrong c L m (take k bs) ≡ first_wrong c L m bs) × (pieces L m (take k bs) ≡ pieces L m bs)
inside c [] m k bs l = (refl, refl)
inside c (f ∷ L) m k bs l =
    ⊎_elim
    (λ t.
    let w = width f in
    let s = span_at f L m bs true t in
    let ih = inside c L (m / 2) (k - w) (drop w bs) (omega arith) in
    let front = take-take w k bs (omega arith) in
    let rest : drop w (take k bs) ≡ take (k - w) (drop w bs) = ap (λ n. drop w (take n bs)) (omega arith) ∙ drop-take w (k - w) bs in (
      first_at f L m (take k bs) c true t
          ∙ ap₂ (λ x y. or_else (wrong c f x) y) front (ap (first_wrong c L (m / 2)) rest ∙ ih.0)
          ∙ sym (first_at f L m bs c true t),
      pieces_at f L m (take k bs) true t ∙ ap₂ (λ x y. x ∷ y) front (ap (pieces L (m / 2)) rest ∙ ih.1) ∙ sym (pieces_at f L m bs true t),
    ))
    (λ t.
    let s = span_at f L m bs false t in
    let ih = inside c L (m / 2) k bs (omega arith) in (
      first_at f L m (take k bs) c false t ∙ ih.0 ∙ sym (first_at f L m bs c false t),
      pieces_at f L m (take k bs) false t ∙ ap (λ r. [] ∷ r) ih.1 ∙ sym (pieces_at f L m bs false t),
    ))
    (cases_Bool (marked m))

-- ---- one record

-- a list that is not empty has a first record
opened_up : (n : ℕ) (s : State) (bs : List ℕ) → 0 < length bs → length bs ≤ n
    → (m : ℕ) × (length bs ≤ suc m) × (records_in n s bs ≡ after_cut (records_in m) s bs (cut s.phase (λ p. count p s.contents) bs))
opened_up zero s bs l h = absurd (omega arith)
opened_up (suc n) s [] l h = absurd (omega arith)
opened_up (suc n) s (b ∷ bs) l h = (n, h, refl)

-- filing what comes first is filing it before the rest
filing_first : (c : Records) (r : Record) (o : Result (List Record) Fault) → filing c (prepended r o) ≡ filing (filed c r) o
filing_first c r (Ok rs) = refl
filing_first c r (Err f) = refl

-- how far a reading has come at a position, with these contents
abbrev pub standing : Position → Records → State
standing s c = record { phase = s.phase; place = s.at; contents = c }

-- what is left gives the result
pub record Going (book : List ℕ) (s : Position) (c : Records) (result : Result Records Fault) : Type 0 where
  pub turns : ℕ
  pub enough : length (drop s.at book) ≤ turns
  pub result_is : filing c (records_in turns (standing s c) (drop s.at book)) ≡ result
  pub tracks : Tracks s.phase s.number c

module _ (book : List ℕ) (s : Position) (c : Records) (result : Result Records Fault) (g : Going book s c result) where
  -- at the end
  pub ends : length book ≤ s.at → result ≡ Ok c
  ends l = sym g.result_is ∙ ap (λ bs. filing c (records_in g.turns (standing s c) bs)) (drop_all s.at book l) ∙ none g.turns
    where
      none : (k : ℕ) → filing c (records_in k (standing s c) []) ≡ Ok c
      none zero = refl
      none (suc k) = refl

  -- a broken record
  pub breaks : (f : Fault) → Hands book s (Err f) s → result ≡ Err f
  breaks f h =
      let bs = drop s.at book in
      let l = h.0 in
      let d = length-drop s.at book in
      let o = opened_up g.turns (standing s c) bs (omega arith) g.enough in
      sym g.result_is ∙ ap (filing c) o.2
      ∙ ap (λ x. filing c (after_cut (records_in o.0) (standing s c) bs x)) (sym (cut_tracks s.phase s.number c g.tracks bs) ∙ h.1)
      ∙ ap (λ at. Err (record { refusal = f.refusal; place = at })) (sym h.2)

  -- a whole one
  module _ (q : Phase) (place : ℕ) (part : List ℕ) (h : Handed book s.at s.phase s.number q place part) where
    is_whole : Whole s.phase (λ q. count q c) (drop s.at book) q (length part)
    is_whole =
        cut_whole s.phase (λ q. count q c) (drop s.at book) q (length part) (sym (cut_tracks s.phase s.number c g.tracks (drop s.at book)) ∙ h.record_is)

    same_map : get_or part 1 0 ≡ get_or (drop s.at book) 1 0
    same_map =
        let k = is_whole.extent.size_is in
        ap (λ l. get_or l 1 0) h.bytes_are ∙ get_or-take (length part) (drop s.at book) 1 0 (omega arith)

    pub part_whole : length part ≡ 2 + span (layout q) (get_or part 1 0)
    part_whole = is_whole.extent.size_is ∙ ap (λ m. 2 + span (layout q) m) (sym same_map)

    pub part_room : count q c < limit q
    part_room = is_whole.extent.room

    -- the fields in the part are those in the book
    same_fields : (first_wrong c (layout q) (get_or part 1 0) (drop 2 part) ≡ first_wrong c (layout q) (get_or (drop s.at book) 1 0) (drop 2 (drop s.at book)))
        × (pieces (layout q) (get_or part 1 0) (drop 2 part) ≡ pieces (layout q) (get_or (drop s.at book) 1 0) (drop 2 (drop s.at book)))
    same_fields =
        let L = layout q in
        let bs = drop s.at book in
        let m = get_or bs 1 0 in
        let k = span L m in
        let bytes : drop 2 part ≡ take k (drop 2 bs) = ap (drop 2) h.bytes_are ∙ ap (λ j. drop 2 (take j bs)) is_whole.extent.size_is ∙ drop-take 2 k bs in
        let i = inside c L m k (drop 2 bs) (omega arith) in
        (ap₂ (first_wrong c L) same_map bytes ∙ i.0, ap₂ (pieces L) same_map bytes ∙ i.1)

    -- what the reading has come to
    opened_here : (m : ℕ) × (length (drop s.at book) ≤ suc m)
        × (result
        ≡ filing c (after_fields (records_in m) (standing s c) (drop s.at book) q (length part) (first_wrong c (layout q) (get_or (drop s.at book) 1 0) (drop 2 (drop s.at book)))))
    opened_here =
        let bs = drop s.at book in
        let d = length-drop s.at book in
        let a = h.some in
        let b = h.inside in
        let o = opened_up g.turns (standing s c) bs (omega arith) g.enough in (
          o.0,
          o.1,
          sym g.result_is ∙ ap (filing c) o.2
              ∙ ap (λ x. filing c (after_cut (records_in o.0) (standing s c) bs x)) (sym (cut_tracks s.phase s.number c g.tracks bs) ∙ h.record_is),
        )

    pub fails : (r : Refusal) → first_wrong c (layout q) (get_or part 1 0) (drop 2 part) ≡ Some r → result ≡ Err (record { refusal = r; place = place })
    fails r e =
        let o = opened_here in
        o.2
        ∙ ap (λ x. filing c (after_fields (records_in o.0) (standing s c) (drop s.at book) q (length part) x)) (sym same_fields.0 ∙ e)
        ∙ ap (λ at. Err (record { refusal = r; place = at })) (sym h.place_is)

    pub goes_on : first_wrong c (layout q) (get_or part 1 0) (drop 2 part) ≡ None
        → Going book (passed s q part) (filed c (record_from q place (pieces (layout q) (get_or part 1 0) (drop 2 part)))) result
    goes_on e =
        let bs = drop s.at book in
        let o = opened_here in
        let fs = pieces (layout q) (get_or part 1 0) (drop 2 part) in
        let r = record_from q place fs in
        let k = length part in
        let t = passed s q part in
        let same : record_from q s.at (pieces (layout q) (get_or bs 1 0) (drop 2 bs)) ≡ r = ap₂ (record_from q) (sym h.place_is) (sym same_fields.1) in
        let d = length-drop s.at book in
        let d2 = length-drop (s.at + k) book in
        let a = h.some in
        let b = h.inside in
        let kind = phase_from q place fs in
        let size = o.1 in
        record {
          turns = o.0;
          enough = omega arith;
          result_is =
              ap (λ bs. filing (filed c r) (records_in o.0 (standing t (filed c r)) bs)) (sym (drop-drop k s.at book))
              ∙ sym (filing_first c r (records_in o.0 (standing t (filed c r)) (drop k bs)))
              ∙ ap (λ r. filing c (prepended r (records_in o.0 (standing t (filed c r)) (drop k bs)))) (sym same)
              ∙ ap (λ x. filing c (after_fields (records_in o.0) (standing s c) bs q k x)) (sym e ∙ same_fields.0)
              ∙ sym o.2;
          tracks =
              subst (λ q'. Tracks q' (numbered s.phase s.number q' + 1) (filed c r)) kind
              (tracks_more s.phase s.number c r g.tracks (subst (λ q'. kind_of s.phase ≤ kind_of q') (sym kind) is_whole.rising));
        }

-- ---- the first record

-- the position of a new reader
abbrev pub front : List ℕ → Position
front book = record { at = min 1 (length book); phase = Types; number = 0 }

pub begins : (book : List ℕ) → opening book ≡ None → Going book (front book) nothing (reading book)
begins [] e = absurd (let z : ◌≡◌ {A = ℕ} 0 1 = cc in omega arith)
begins (b ∷ bs) e =
    let one : 1 ≡ min 1 (length (b ∷ bs)) = omega arith in
    subst (λ at. Going (b ∷ bs) (record { at = at; phase = Types; number = 0 }) nothing (reading (b ∷ bs))) one
    (record { turns = length (b ∷ bs); enough = omega arith; result_is = ap (λ o. filing nothing (after_opening o (b ∷ bs))) (sym e); tracks = tracks_none })

-- a reading that stands where another does
pub going_there : (book : List ℕ) (result : Result Records Fault) (s t : Position) (c d : Records) → s ≡ t → c ≡ d → Going book s c result → Going book t d result
going_there book result s t c d e f x = subst (λ s. Going book s d result) e (subst (λ c. Going book s c result) f x)
