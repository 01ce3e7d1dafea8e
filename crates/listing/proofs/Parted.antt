-- Texts parted by spaces, and rows one after the other, passed one by one. Assumes nothing.
use Prim.Native.Nat.{ℕ, suc, ◌+◌, ◌≤◌, ◌<◌}
use native.Mathlib.Numerals.{add-one}
use mathlib.Core.Path.{◌≡◌, refl, ap, ◌∙◌}
use mathlib.Core.List.{List, [], ◌++◌, map}
use lib.ListN.{length, drop, get_or, drop_of_length-le}
use lib.Seq.{drop-cons}
use Rattle.std.proofs.lemmas.List.Sums.{fold-append}
use Rattle.writing.specs.Writers.{with_byte, with_text}
use Rattle.writing.specs.declared.Writer.{Writer}
use Rattle.writing.specs.Refused.{gap, parted_from}
use Rattle.paths.specs.Recomposed.{in_row}

module _ {A : Type 0} where
  -- the texts of the elements, put one by one
  module _ (f : A → List ℕ) (xs : List A) where
    -- a turn: a space, unless it is the first, and the next text
    pub parted_turn : (w : Writer) (i : ℕ) (d : A) → i < length xs
        → with_text w (parted_from i (map f (drop i xs))) ≡ with_text (with_text (with_text w (gap i)) (f (get_or xs i d))) (parted_from (i + 1) (map f (drop (i + 1) xs)))
    parted_turn w i d h =
        let rest = parted_from (suc i) (map f (drop (suc i) xs)) in
        ap (λ (ys : List A). with_text w (parted_from i (map f ys))) (drop-cons xs i d h)
        ∙ fold-append with_byte w (gap i) (f (get_or xs i d) ++ rest)
        ∙ fold-append with_byte (with_text w (gap i)) (f (get_or xs i d)) rest
        ∙ rw add-one refl

    -- the same without spaces
    pub row_turn : (w : Writer) (i : ℕ) (d : A) → i < length xs
        → with_text w (in_row (map f (drop i xs))) ≡ with_text (with_text w (f (get_or xs i d))) (in_row (map f (drop (i + 1) xs)))
    row_turn w i d h =
        ap (λ (ys : List A). with_text w (in_row (map f ys))) (drop-cons xs i d h)
        ∙ fold-append with_byte w (f (get_or xs i d)) (in_row (map f (drop (suc i) xs)))
        ∙ rw add-one refl

    -- the end: no text is left
    pub none_left : (i : ℕ) → length xs ≤ i → map f (drop i xs) ≡ []
    none_left i h = ap (map f) (drop_of_length-le xs h)
