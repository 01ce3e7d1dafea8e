-- What holds of every row of a table, each fact by one computed test over the whole table. The crates that strip prefixes and
-- suffixes, rank readings and bound their number cite these laws. Assumes nothing.
use mathlib.Core.Path.{◌≡◌, refl, ap, sym, ◌∙◌}
use mathlib.Core.Bool.{Bool, true, false, not, ◌&&◌, ◌||◌}
use mathlib.Core.List.{List, [], ◌∷◌, ◌++◌, append_assoc}
use Prim.Native.Nat.{ℕ, ◌+◌, ◌≤◌, ◌<◌}
use lib.ListN.{length, take, get_or, get_or-append}
use lib.Seq.{get_or-append-add}
use lib.Dec.{eqb, leb, ltb}
use Rattle.std.specs.declared.cmp.Ordering.TheVariants.{Less}
use borrow.Author.Tests.{eqb-true, leb-true, ltb-true, not-true}
use Rattle.text.specs.Utf8.{is_utf8, run, after, opened, utf8_char, within}
use Rattle.text.specs.Characters.{chars, opens}
use Rattle.tables.specs.Rows.{prefix_labels, prefix_forms, plural_markers, case_markers, particles, suffixes, strip_suffixes, origin_words, origin_tags}
use Rattle.tables.specs.Tables.{affixes, is_ii}
use Rattle.runs.specs.Runs.{cmp}
use Rattle.runs.proofs.Begins.{and_left, and_right}
use Rattle.runs.proofs.Ordered.{compared}
use Rattle.tables.proofs.Tested.{every, at}
use Rattle.tables.proofs.Listed.{ascending, ascends, stand}

-- The number of rows.

pub prefix_label_count : length prefix_labels ≡ 30
unfolding prefix_labels
prefix_label_count = refl

pub prefix_form_count : length prefix_forms ≡ 30
unfolding prefix_forms
prefix_form_count = refl

pub affix_count : length affixes ≡ 25
unfolding affixes plural_markers case_markers particles
affix_count = refl

pub suffix-count : length suffixes ≡ 24
unfolding suffixes
suffix-count = refl

pub strip_suffix_count : length strip_suffixes ≡ 22
unfolding strip_suffixes
strip_suffix_count = refl

pub origin_word_count : length origin_words ≡ 79
unfolding origin_words
origin_word_count = refl

pub origin_tag_count : length origin_tags ≡ 79
unfolding origin_tags
origin_tag_count = refl

-- The three groups of the 25 texts, each in its own table's order.

pub affix_plural : (k : ℕ) → k < 2 → get_or affixes k [] ≡ get_or plural_markers k []
unfolding affixes plural_markers
affix_plural k h = get_or-append plural_markers (case_markers ++ particles) [] k h

pub affix_case : (k : ℕ) → k < 16 → get_or affixes (2 + k) [] ≡ get_or case_markers k []
unfolding affixes plural_markers case_markers
affix_case k h =
    get_or-append-add plural_markers (case_markers ++ particles) k [] ∙ get_or-append case_markers particles [] k h

pub affix_particle : (k : ℕ) → get_or affixes (18 + k) [] ≡ get_or particles k []
unfolding affixes plural_markers case_markers
affix_particle k =
    ap (λ (l : List (List ℕ)). get_or l (18 + k) []) (sym (append_assoc plural_markers case_markers particles))
    ∙ get_or-append-add (plural_markers ++ case_markers) particles k []

-- Every row is UTF-8, of at most so many bytes, and begins with a character of three bytes; so none is empty.

pub record Text (most : ℕ) (t : List ℕ) : Type 0 where
  pub utf8 : is_utf8 t ≡ true
  pub short : length t ≤ most
  pub long : 3 ≤ length t
  pub first_utf8 : is_utf8 (take 3 t) ≡ true
  pub first_one : chars (take 3 t) ≡ 1

abbrev is_text : ℕ → List ℕ → Bool
is_text most t = is_utf8 t && (leb (length t) most && (leb 3 (length t) && (is_utf8 (take 3 t) && eqb (chars (take 3 t)) 1)))

texts : (most : ℕ) (rows : List (List ℕ)) → every (λ k t. is_text most t) 0 rows ≡ true → (k : ℕ) → k < length rows → Text most (get_or rows k [])
texts most rows e k h = passed (get_or rows k []) (at (λ k t. is_text most t) rows e k [] h)
  where
    passed : (t : List ℕ) → is_text most t ≡ true → Text most t
    passed t e =
        let p = and_right (is_utf8 t) _ e in
        let q = and_right (leb (length t) most) _ p in
        let r = and_right (leb 3 (length t)) _ q in
        record {
          utf8 = and_left (is_utf8 t) _ e;
          short = leb-true (length t) most (and_left _ _ p);
          long = leb-true 3 (length t) (and_left _ _ q);
          first_utf8 = and_left (is_utf8 (take 3 t)) _ r;
          first_one = eqb-true (chars (take 3 t)) 1 (and_right (is_utf8 (take 3 t)) _ r);
        }

pub prefix_label_text : (k : ℕ) → k < 30 → Text 15 (get_or prefix_labels k [])
unfolding prefix_labels is_utf8 run after opened utf8_char within chars opens
prefix_label_text = texts 15 prefix_labels refl

pub prefix_form_text : (k : ℕ) → k < 30 → Text 15 (get_or prefix_forms k [])
unfolding prefix_forms is_utf8 run after opened utf8_char within chars opens
prefix_form_text = texts 15 prefix_forms refl

pub affix_text : (k : ℕ) → k < 25 → Text 18 (get_or affixes k [])
unfolding affixes plural_markers case_markers particles is_utf8 run after opened utf8_char within chars opens
affix_text = texts 18 affixes refl

pub suffix_text : (k : ℕ) → k < 24 → Text 18 (get_or suffixes k [])
unfolding suffixes is_utf8 run after opened utf8_char within chars opens
suffix_text = texts 18 suffixes refl

pub strip_suffix_text : (k : ℕ) → k < 22 → Text 18 (get_or strip_suffixes k [])
unfolding strip_suffixes is_utf8 run after opened utf8_char within chars opens
strip_suffix_text = texts 18 strip_suffixes refl

pub origin_word_text : (k : ℕ) → k < 79 → Text 36 (get_or origin_words k [])
unfolding origin_words is_utf8 run after opened utf8_char within chars opens
origin_word_text = texts 36 origin_words refl

-- The words of ORIGIN_TABLE ascend strictly: tested over neighbours, and so for any two.

pub origin_ascending : ascending origin_words ≡ true
unfolding origin_words
origin_ascending = refl

pub origin_stands : (i j : ℕ) → i < j → j < 79 → stand (get_or origin_words i []) (get_or origin_words j []) ≡ Less
origin_stands i j l h = ascends origin_words origin_ascending i j l (rw origin_word_count h)

pub origin_ascends : (i j : ℕ) → i < j → j < 79 → cmp (get_or origin_words i []) (get_or origin_words j []) ≡ Less
origin_ascends i j l h = sym (compared (get_or origin_words i []) (get_or origin_words j [])) ∙ origin_stands i j l h

-- Rows of one character.

pub affix_characters : (k : ℕ) → k < 25 → 1 < chars (get_or affixes k [])
unfolding affixes plural_markers case_markers particles within chars opens
affix_characters k h = ltb-true 1 (chars (get_or affixes k [])) (at (λ k t. ltb 1 (chars t)) affixes refl k [] h)

pub strip_suffix_characters : (k : ℕ) → k < 22 → 1 < chars (get_or strip_suffixes k [])
unfolding strip_suffixes within chars opens
strip_suffix_characters k h = ltb-true 1 (chars (get_or strip_suffixes k [])) (at (λ k t. ltb 1 (chars t)) strip_suffixes refl k [] h)

-- the two tests agree
abbrev agree : Bool → Bool → Bool
agree true b = b
agree false b = not b

agreed : (a b : Bool) → agree a b ≡ true → a ≡ b
agreed true b e = sym e
agreed false b e = sym (not-true b e)

-- of SUFFIXES, ई and ी and no others
pub suffix_one : (k : ℕ) → k < 24 → eqb (chars (get_or suffixes k [])) 1 ≡ is_ii (get_or suffixes k [])
unfolding suffixes is_ii within chars opens
suffix_one k h = agreed (eqb (chars (get_or suffixes k [])) 1) (is_ii (get_or suffixes k [])) (at (λ k t. agree (eqb (chars t) 1) (is_ii t)) suffixes refl k [] h)

-- of the prefix forms, आ and अ and no others: rows 28 and 29
pub prefix_form_one : (k : ℕ) → k < 30 → eqb (chars (get_or prefix_forms k [])) 1 ≡ leb 28 k
unfolding prefix_forms within chars opens
prefix_form_one k h = agreed (eqb (chars (get_or prefix_forms k [])) 1) (leb 28 k) (at (λ k t. agree (eqb (chars t) 1) (leb 28 k)) prefix_forms refl k [] h)

pub prefix_form_aa : get_or prefix_forms 28 [] ≡ 0xE0 ∷ 0xA4 ∷ 0x86 ∷ []
unfolding prefix_forms
prefix_form_aa = refl

pub prefix_form_a : get_or prefix_forms 29 [] ≡ 0xE0 ∷ 0xA4 ∷ 0x85 ∷ []
unfolding prefix_forms
prefix_form_a = refl

-- The source joins stem, root and labels with `|` and `+` (7C and 2B): no label holds either, and no prefix form holds `|`.

abbrev pub holds : ℕ → List ℕ → Bool
holds b [] = false
holds b (x ∷ s) = eqb b x || holds b s

pub record Unjoined (t : List ℕ) : Type 0 where
  pub no_bar : holds 0x7C t ≡ false
  pub no_plus : holds 0x2B t ≡ false

abbrev is_unjoined : List ℕ → Bool
is_unjoined t = not (holds 0x7C t) && not (holds 0x2B t)

unjoined : (rows : List (List ℕ)) → every (λ k t. is_unjoined t) 0 rows ≡ true → (k : ℕ) → k < length rows → Unjoined (get_or rows k [])
unjoined rows e k h =
    let t = get_or rows k [] in
    let p = at (λ k t. is_unjoined t) rows e k [] h in
    record {
      no_bar = not-true (holds 0x7C t) (and_left (not (holds 0x7C t)) (not (holds 0x2B t)) p);
      no_plus = not-true (holds 0x2B t) (and_right (not (holds 0x7C t)) (not (holds 0x2B t)) p);
    }

pub prefix_label_unjoined : (k : ℕ) → k < 30 → Unjoined (get_or prefix_labels k [])
unfolding prefix_labels
prefix_label_unjoined = unjoined prefix_labels refl

pub prefix_form_unjoined : (k : ℕ) → k < 30 → Unjoined (get_or prefix_forms k [])
unfolding prefix_forms
prefix_form_unjoined = unjoined prefix_forms refl

pub affix_unjoined : (k : ℕ) → k < 25 → Unjoined (get_or affixes k [])
unfolding affixes plural_markers case_markers particles
affix_unjoined = unjoined affixes refl

pub suffix_unjoined : (k : ℕ) → k < 24 → Unjoined (get_or suffixes k [])
unfolding suffixes
suffix_unjoined = unjoined suffixes refl
