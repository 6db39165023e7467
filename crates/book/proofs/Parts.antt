-- The parts that a reader hands out of an accepted book, joined, are the book less its first byte.
use Rattle.std.proofs.Common.{◌≡◌, ℕ, zero, suc, ◌+◌, ◌≤◌, List, [], ◌∷◌, ◌++◌, length, get_or, take, drop, Some, None, Ok, Option, sym, refl, ap, ◌∙◌, subst, arith}
use Rattle.std.proofs.lemmas.List.{take-append-drop, length-drop}
use Rattle.book.specs.declared.phase.Phase.{Phase}
use Rattle.book.specs.declared.refusal.Refusal.{Refusal}
use Rattle.book.specs.Layout.{layout, kind_of}
use Rattle.book.specs.Contents.{Record, count, filed}
use Rattle.book.specs.Encoding.{together}
use Rattle.book.specs.Form.{Cut, whole, broken, cut, pieces, first_wrong, record_from, State, start, advanced, after_fields, after_cut, records_in, opening, after_opening}
use Rattle.book.specs.FormLaws.{numbered, parts_as, parts_in, PartsAreTheBook}
use Rattle.book.proofs.Cuts.{cut_whole}
use Rattle.book.proofs.Fieldwise.{phase_from}
use Rattle.book.proofs.Encoded.{not_ok, prepended_ok}
use Rattle.book.proofs.Tracking.{Tracks, tracks_none, tracks_more, cut_tracks}

-- what k turns hand out of bytes that pass is these bytes
abbrev Joined : ℕ → Type 0
Joined k = (s : State) (n : ℕ) (bs : List ℕ) (rs : List Record) → Tracks s.phase n s.contents → length bs ≤ k → records_in k s bs ≡ Ok rs
    → together (parts_in k s.phase n bs) ≡ bs

-- one part more
module _ (k : ℕ) (later : Joined k) (s : State) (n : ℕ) (b : ℕ) (bs : List ℕ) (rs : List Record) (t : Tracks s.phase n s.contents) (l : length (b ∷ bs) ≤ suc k) where
  fields : (q : Phase) (size : ℕ) → cut s.phase (λ p. count p s.contents) (b ∷ bs) ≡ whole q size → (o : Option Refusal)
      → after_fields (records_in k) s (b ∷ bs) q size o ≡ Ok rs → together (parts_as (parts_in k) s.phase n (b ∷ bs) (whole q size)) ≡ b ∷ bs
  fields q size e (Some r) h = absurd (not_ok _ rs h)
  fields q size e None h =
      let fs = pieces (layout q) (get_or (b ∷ bs) 1 0) (drop 2 (b ∷ bs)) in
      let r = record_from q s.place fs in
      let w = cut_whole s.phase (λ p. count p s.contents) (b ∷ bs) q size e in
      let a = w.extent.size_is in
      let c = w.extent.long in
      let d = length-drop size (b ∷ bs) in
      let split = prepended_ok r (records_in k (advanced s size q r) (drop size (b ∷ bs))) rs h in
      let kind = phase_from q s.place fs in
      let tracks =
      subst (λ q'. Tracks q' (numbered s.phase n q' + 1) (filed s.contents r)) kind
      (tracks_more s.phase n s.contents r t (subst (λ q'. kind_of s.phase ≤ kind_of q') (sym kind) w.rising)) in
      ap (λ x. take size (b ∷ bs) ++ x) (later (advanced s size q r) (numbered s.phase n q + 1) (drop size (b ∷ bs)) split.0 tracks (omega arith) split.1)
      ∙ take-append-drop size (b ∷ bs)

  part : (x : Cut) → cut s.phase (λ p. count p s.contents) (b ∷ bs) ≡ x → after_cut (records_in k) s (b ∷ bs) x ≡ Ok rs
      → together (parts_as (parts_in k) s.phase n (b ∷ bs) x) ≡ b ∷ bs
  part (broken r) e h = absurd (not_ok _ rs h)
  part (whole q size) e h = fields q size e (first_wrong s.contents (layout q) (get_or (b ∷ bs) 1 0) (drop 2 (b ∷ bs))) h

joined_parts : (k : ℕ) → Joined k
joined_parts zero s n [] rs t l e = refl
joined_parts zero s n (b ∷ bs) rs t l e = absurd (omega arith)
joined_parts (suc k) s n [] rs t l e = refl
joined_parts (suc k) s n (b ∷ bs) rs t l e =
    let c = cut s.phase (λ p. count p s.contents) (b ∷ bs) in
    ap (λ x. together (parts_as (parts_in k) s.phase n (b ∷ bs) x)) (cut_tracks s.phase n s.contents t (b ∷ bs))
    ∙ part k (joined_parts k) s n b bs rs t l c refl e

opened : (o : Option Refusal) (bs : List ℕ) (rs : List Record) → after_opening o bs ≡ Ok rs → records_in (length bs) start (drop 1 bs) ≡ Ok rs
opened (Some r) bs rs e = absurd (not_ok _ rs e)
opened None bs rs e = e

pub parts_are_the_book : PartsAreTheBook
parts_are_the_book bs rs e =
    let d = length-drop 1 bs in
    joined_parts (length bs) start 0 (drop 1 bs) rs tracks_none (omega arith) (opened (opening bs) bs rs e)
