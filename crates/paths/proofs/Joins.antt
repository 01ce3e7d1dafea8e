-- A path puts its word back together, strip by strip, and so does its reading. The promise of it cites these. Assumes nothing.
use Prim.Native.Nat.{ℕ, ◌≤◌}
use native.Mathlib.Omega.{arith}
use mathlib.Core.Path.{◌≡◌, refl, sym, ap, ap₂, ◌∙◌}
use mathlib.Core.Bool.{Bool, true, false}
use mathlib.Core.List.{List, [], ◌∷◌, ◌++◌, map, reverse, append_assoc, append-nil, map-append, reverse-append}
use lib.ListN.{length, take, drop, replicate, length-map, length-reverse}
use lib.Seq.{take-take, take_at}
use Rattle.runs.specs.Runs.{pick}
use Rattle.runs.proofs.Begins.{begins-front}
use Rattle.strips.specs.Suffix.{first_length, sheds}
use Rattle.strips.proofs.Remainders.{plain-joined, shared-joined}
use Rattle.sheet.specs.Replies.{Ask}
use Rattle.ranking.specs.Rank.{stem_text, root_text}
use Rattle.ranking.specs.Stored.{no_segment}
use Rattle.ranking.specs.declared.Segment.{Segment}
use Rattle.paths.specs.Chains.{most_strips, most_prefixes, Strip, text_of, left_by, rows_after, form_of, Suffixed, Prefixed, Route, PathOf}
use Rattle.paths.specs.Readings.{segment_of, filled, reading_of}
use Rattle.paths.specs.Recomposed.{in_row, written_of, prefix_forms, suffix_texts, Recomposed}
use Rattle.paths.proofs.Left.{kept, left-says, prefix_says}

in_row_append : (xs ys : List (List ℕ)) → in_row (xs ++ ys) ≡ in_row xs ++ in_row ys
in_row_append [] ys = refl
in_row_append (x ∷ xs) ys = ap (λ (l : List ℕ). x ++ l) (in_row_append xs ys) ∙ sym (append_assoc x (in_row xs) (in_row ys))

module _ (ask : Ask) where
  -- the forms of prefix rows and what they lead to are the piece
  prefixes_join : (piece rows root : List ℕ) → Prefixed ask piece rows root → in_row (map form_of rows) ++ root ≡ piece
  prefixes_join piece [] root p = sym p
  prefixes_join piece (row ∷ rows) root p =
      let left = p.2.0 in
      let s = prefix_says piece (form_of row) left p.2.1 in
      append_assoc (form_of row) (in_row (map form_of rows)) root
      ∙ ap (λ (l : List ℕ). form_of row ++ l) (prefixes_join left rows root p.2.2 ∙ s.1)
      ∙ sym (begins-front (form_of row) piece s.0)

  -- what a strip leaves and what is written of its text are the piece
  strip_joins : (piece : List ℕ) (x : Strip) (left : List ℕ) → left_by piece x ≡ left ∷ [] → left ++ written_of (segment_of ask x) ≡ piece
  strip_joins piece x left e =
      let s = left-says piece x left e in
      ap (λ (l : List ℕ). l ++ written_of (segment_of ask x)) s.1 ∙ go x.is_shared s.0
    where
      go : (b : Bool) → sheds piece (text_of x) ≡ true → kept b piece (text_of x) ++ pick b (drop (first_length (text_of x)) (text_of x)) (text_of x) ≡ piece
      go true h = shared-joined piece (text_of x) h
      go false h = plain-joined piece (text_of x) h

  -- the strips' texts, nearest the stem first
  abbrev texts : List Strip → List (List ℕ)
  texts strips = map written_of (reverse (map (segment_of ask) strips))

  texts_cons : (x : Strip) (strips : List Strip) → in_row (texts (x ∷ strips)) ≡ in_row (texts strips) ++ written_of (segment_of ask x)
  texts_cons x strips =
      ap (λ (l : List Segment). in_row (map written_of l)) (reverse-append (segment_of ask x ∷ []) (map (segment_of ask) strips))
      ∙ ap in_row (map-append written_of (reverse (map (segment_of ask) strips)) (segment_of ask x ∷ []))
      ∙ in_row_append (texts strips) (written_of (segment_of ask x) ∷ [])
      ∙ ap (λ (l : List ℕ). in_row (texts strips) ++ l) (append-nil (written_of (segment_of ask x)))

  -- the stem and what is written of the suffixes are the piece
  suffixes_join : (rows : ℕ) (piece : List ℕ) (strips : List Strip) (stem : List ℕ) → Suffixed ask rows piece strips stem → stem ++ in_row (texts strips) ≡ piece
  suffixes_join rows piece [] stem p = append-nil stem ∙ sym p
  suffixes_join rows piece (x ∷ strips) stem p =
      let left = p.2.0 in
      ap (λ (l : List ℕ). stem ++ l) (texts_cons x strips)
      ∙ sym (append_assoc stem (in_row (texts strips)) (written_of (segment_of ask x)))
      ∙ ap (λ (l : List ℕ). l ++ written_of (segment_of ask x)) (suffixes_join (rows_after x.row) left strips stem p.2.2)
      ∙ strip_joins piece x left p.2.1

-- of what is filled up, the first are what was there
filled-front : {A : Type 0} (n : ℕ) (d : A) (xs : List A) → length xs ≤ n → take (length xs) (filled n d xs) ≡ xs
filled-front n d xs h = take-take (length xs) n (xs ++ replicate n d) h ∙ take_at xs (replicate n d) (length xs) refl

-- a path's reading puts the word back together
module _ (ask : Ask) (w : List ℕ) (p : Route) (a : PathOf ask w p) (st : stem_text w (reading_of ask w p) ≡ p.stem) (rt : root_text w (reading_of ask w p) ≡ p.root) where
  forms_are : prefix_forms (reading_of ask w p) ≡ map form_of p.prefix_rows
  unfolding reading_of
  forms_are = ap (map form_of) (filled-front most_prefixes 0 p.prefix_rows a.few_prefixes)

  texts_are : suffix_texts (reading_of ask w p) ≡ texts ask p.strips
  unfolding reading_of
  texts_are =
      let xs = reverse (map (segment_of ask) p.strips) in
      let n : length xs ≡ length p.strips = length-reverse (map (segment_of ask) p.strips) ∙ length-map p.strips (segment_of ask) in
      ap (λ (k : ℕ). map written_of (take k (filled most_strips no_segment xs))) (sym n)
      ∙ ap (map written_of) (filled-front most_strips no_segment xs (omega (arith, n, a.few_strips)))

  pub path_joins : Recomposed w (reading_of ask w p)
  path_joins = record {
    stem-joined =
        ap₂ (λ (f : List (List ℕ)) (r : List ℕ). in_row f ++ r) forms_are rt ∙ prefixes_join ask p.stem p.prefix_rows p.root a.prefixed ∙ sym st;
    word-joined =
        ap₂ (λ (s : List ℕ) (t : List (List ℕ)). s ++ in_row t) st texts_are ∙ suffixes_join ask _ w p.strips p.stem a.suffixed;
  }
