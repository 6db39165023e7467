-- The part that a reader hands out.
use Rattle.std.proofs.Common.{◌≡◌, ℕ, ◌+◌, ◌-◌, ◌<◌, ◌≤◌, false, eqb, List, length, take, drop, sym, refl, ap, ◌∙◌, arith}
use Rattle.std.proofs.lemmas.List.{take_rest, length-take-le, length-drop}
use Rattle.std.proofs.lemmas.Bool.{eqb-false}
use Rattle.book.specs.declared.phase.Phase.{Phase}
use Rattle.book.specs.Form.{Cut, whole, cut}
use Rattle.book.specs.FormLaws.{numbered}
use Rattle.book.specs.Reading.{Handed}
use Rattle.book.proofs.Cuts.{cut_whole}

-- what is left of the book, as the reader holds it
abbrev pub left : List ℕ → ℕ → List ℕ
left book at = take (length book - at) (drop at book)

module _ (book : List ℕ) (at : ℕ) (within : at ≤ length book) where
  pub some_left : eqb (length (left book at)) 0 ≡ false → at < length book
  some_left e =
      let z = eqb-false (length (left book at)) 0 e in
      let l = ap length (take_rest book at) ∙ length-drop at book in
      omega arith

  module _ (p : Phase) (n : ℕ) where
    pub cut_left : (x : Cut) → cut p (numbered p n) (left book at) ≡ x → cut p (numbered p n) (drop at book) ≡ x
    cut_left x e = ap (cut p (numbered p n)) (sym (take_rest book at)) ∙ e

    module _ (q : Phase) (size : ℕ) (e : cut p (numbered p n) (left book at) ≡ whole q size) where
      pub inside : at + size ≤ length book
      inside =
          let w = (cut_whole p (numbered p n) (drop at book) q size (cut_left (whole q size) e)).extent in
          let a = w.long in
          let b = length-drop at book in
          omega arith

      pub part_length : length (take size (left book at)) ≡ size
      part_length =
          let i = inside in
          let l = ap length (take_rest book at) ∙ length-drop at book in
          length-take-le size (left book at) (omega arith)

      pub handed : Handed book at p n q at (take size (left book at))
      handed =
          let w = (cut_whole p (numbered p n) (drop at book) q size (cut_left (whole q size) e)).extent in
          let a = w.size_is in
          let i = inside in
          let l = part_length in
          record {
            record_is = cut_left (whole q size) e ∙ ap (whole q) (sym l);
            place_is = refl;
            bytes_are = ap (take size) (take_rest book at) ∙ ap (λ n. take n (drop at book)) (omega arith);
            some = omega arith;
            inside = omega arith;
          }
