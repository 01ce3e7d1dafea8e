-- How long a text can be: of a word of at most 192 bytes, a row has at most 584 bytes and a list of 64 rows at most 37,386. Assumes
-- nothing.
use Prim.Native.Nat.{ℕ, ◌+◌, ◌-◌, ◌*◌, ◌≤◌, ◌<◌}
use native.Mathlib.Omega.{arith}
use native.Mathlib.Nat.{suc-mul}
use mathlib.Core.Path.{◌≡◌, refl, ap, ◌∙◌}
use mathlib.Core.Bool.{Bool, true, false, ◌&&◌}
use mathlib.Core.List.{List, [], ◌∷◌, map}
use lib.ListN.{length, take, drop, get_or, length-append, length-take, length-drop, get_or-eq_default}
use lib.Dec.{ltb, leb}
use borrow.Author.Tests.{ltb-true, ltb-false, leb-true}
use Rattle.runs.specs.Runs.{pick}
use Rattle.tables.specs.Rows.{prefix_labels, prefix_forms, plural_markers, case_markers, particles}
use Rattle.tables.specs.Tables.{affixes}
use Rattle.tables.proofs.Tested.{every, at}
use Rattle.ranking.specs.Parts.{part}
use Rattle.ranking.specs.declared.AffixKind.{AffixKind}
use Rattle.ranking.specs.declared.AffixKind.TheVariants.{Particle, CaseMarker, PluralMarker, Postposition, ComparisonMarker}
use Rattle.ranking.specs.declared.Segment.{Segment}
use Rattle.ranking.specs.declared.Reading.{Reading}
use Rattle.ranking.specs.declared.Classified.{Classified}
use Rattle.strips.specs.Suffix.{first_length}
use Rattle.paths.specs.Chains.{form_of}
use Rattle.paths.specs.Recomposed.{in_row, written_of, surface_text}
use Rattle.writing.specs.Refused.{refused_text}
use Rattle.listing.specs.Texts.{kind_text, mark_text, segment_text, label_text, reading_text, end_text, row_text, row_texts, listing_text, reading_room, row_room, listing_room}
use Rattle.writing.proofs.Sizes.{parted-size, digit-size, count-size, number_size}

-- a row of a table none of whose rows is longer than m, and what stands for one that is not there
table_size : (rows : List (List ℕ)) (m : ℕ) → every (λ _ r. leb (length r) m) 0 rows ≡ true → (k : ℕ) → length (get_or rows k []) ≤ m
table_size rows m t k = by (ltb k (length rows)) refl
  where
    by : (b : Bool) → ltb k (length rows) ≡ b → length (get_or rows k []) ≤ m
    by true e = leb-true _ _ (at (λ _ r. leb (length r) m) rows t k [] (ltb-true _ _ e))
    by false e = let z = ap length (get_or-eq_default rows [] (ltb-false _ _ e)) in omega arith

label-size : (k : ℕ) → length (label_text k) ≤ 15
unfolding prefix_labels
label-size k = table_size prefix_labels 15 refl k

affix_size : (k : ℕ) → length (get_or affixes k []) ≤ 18
unfolding affixes plural_markers case_markers particles
affix_size k = table_size affixes 18 refl k

kind-size : (k : AffixKind) → length (kind_text k) ≤ 8
kind-size Particle = omega arith
kind-size CaseMarker = omega arith
kind-size PluralMarker = omega arith
kind-size Postposition = omega arith
kind-size ComparisonMarker = omega arith

mark_size : (b : Bool) → length (mark_text b) ≤ 7
mark_size true = omega arith
mark_size false = omega arith

segment_size : (s : Segment) → length (segment_text s) ≤ 36
unfolding segment_text
segment_size s =
    let a = affix_size s.label in
    let k = kind-size s.kind in
    let m = mark_size s.shared in
    simp length-append (omega arith)

part-size : (w : List ℕ) (from to : ℕ) → length (part w from to) ≤ length w
unfolding part
part-size w from to = by (leb from to && leb to (length w))
  where
    by : (b : Bool) → length (pick b (take (to - from) (drop from w)) []) ≤ length w
    by true = simp (length-take, length-drop) (omega arith)
    by false = omega arith

pub reading_size : (w : List ℕ) (r : Reading) → length w ≤ 192 → length r.prefixes ≡ 2 → length r.segments ≡ 4 → r.score < 65536
    → length (reading_text w r) ≤ reading_room
unfolding reading_text
reading_size w r h p s c =
    let a = part-size w 0 r.stem in
    let b = part-size w r.root r.stem in
    let t = length-take r.prefix_count r.prefixes in
    let u = length-take r.suffix_count r.segments in
    let d = parted-size label_text 15 label-size 0 (take r.prefix_count r.prefixes) in
    let e = parted-size segment_text 36 segment_size 0 (take r.suffix_count r.segments) in
    let n = number_size r.score (omega arith) in
    simp length-append (omega arith)

-- with the tag letter and what closes the row
pub row-size : (w : List ℕ) (r : Classified) → length (reading_text w r.reading) ≤ reading_room → length (row_text w r) ≤ row_room
unfolding row_text
row-size w r h = let n = length-append (reading_text w r.reading) (end_text r.origin) in omega arith

-- the rows from the i-th on, where those before it have at most `row_room` bytes each
module _ (w : List ℕ) (i whole : ℕ) (rs : List Classified) (so_far : whole ≤ i * row_room + length (row_texts w rs)) where
  pub rows_turn : (r : Classified) (rest : List Classified) → rs ≡ r ∷ rest → length (row_text w r) ≤ row_room → whole ≤ (i + 1) * row_room + length (row_texts w rest)
  rows_turn r rest e h = let z = ap (λ (l : List Classified). length (row_texts w l)) e ∙ length-append (row_text w r) (row_texts w rest) in omega arith

  pub rows_end : (n : ℕ) → i ≤ n → rs ≡ [] → whole ≤ n * row_room
  rows_end n h e = let z = ap (λ (l : List Classified). length (row_texts w l)) e in omega arith

-- what a reading puts together is short too
form-size : (k : ℕ) → length (form_of k) ≤ 15
unfolding prefix_forms
form-size k = table_size prefix_forms 15 refl k

written-size : (s : Segment) → length (written_of s) ≤ 18
written-size s = by s.shared
  where
    text : List ℕ
    text = get_or affixes s.label []

    by : (b : Bool) → length (pick b (drop (first_length text) text) text) ≤ 18
    by true = let a = affix_size s.label in let d = length-drop (first_length text) text in omega arith
    by false = affix_size s.label

in_row_size : {A : Type 0} (f : A → List ℕ) (m : ℕ) → ((x : A) → length (f x) ≤ m) → (xs : List A) → length (in_row (map f xs)) ≤ length xs * m
in_row_size f m h [] = omega arith
in_row_size f m h (x ∷ xs) =
    let t = h x in
    let q = in_row_size f m h xs in
    let z = suc-mul (length xs) m in
    simp length-append (omega arith)

pub surface_size : (w : List ℕ) (r : Reading) → length w ≤ 192 → length r.prefixes ≡ 2 → length r.segments ≡ 4 → length (surface_text w r) ≤ listing_room
unfolding surface_text
surface_size w r h p s =
    let b = part-size w r.root r.stem in
    let t = length-take r.prefix_count r.prefixes in
    let u = length-take r.suffix_count r.segments in
    let d = in_row_size form_of 15 form-size (take r.prefix_count r.prefixes) in
    let e = in_row_size written_of 18 written-size (take r.suffix_count r.segments) in
    simp length-append (omega arith)

pub listing-size : (w : List ℕ) (rs : List Classified) (n : ℕ) → n ≤ 64 → n ≡ length rs → length (row_texts w rs) ≤ n * row_room → length (listing_text w rs) ≤ listing_room
unfolding listing_text
listing-size w rs n h e r = let d = count-size (length rs) (omega arith) in simp length-append (omega arith)

-- a refusal's line
pub number-line-size : (n : ℕ) → n < 10 → length (refused_text (n ∷ [])) ≤ listing_room
unfolding refused_text
number-line-size n h = let d = digit-size n h in simp length-append (omega arith)

pub place_line_size : (n start : ℕ) → n < 10 → start < 65536 → length (refused_text (n ∷ start ∷ [])) ≤ listing_room
unfolding refused_text
place_line_size n start h l =
    let d = digit-size n h in
    let e = number_size start (omega arith) in
    simp length-append (omega arith)
