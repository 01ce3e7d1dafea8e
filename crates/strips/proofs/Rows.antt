-- What strips say of the tables' rows, each by one computed test over its table: the first character of every text that is stripped
-- from an end has three bytes, and the rule of pronouns speaks of no row of the readings' suffixes. Assumes nothing.
use mathlib.Core.Path.{◌≡◌, refl, ap}
use mathlib.Core.Bool.{Bool, true, false, not, ◌&&◌}
use mathlib.Core.List.{[]}
use Prim.Native.Nat.{ℕ, ◌<◌}
use lib.ListN.{get_or}
use lib.Dec.{eqb, leb}
use borrow.Author.Tests.{eqb-true, lt-ltb, not-true}
use Rattle.runs.specs.Runs.{pick}
use Rattle.text.specs.Utf8.{within}
use Rattle.text.specs.Characters.{chars, opens}
use Rattle.tables.specs.Rows.{prefix_forms, plural_markers, case_markers, particles, suffixes, strip_suffixes}
use Rattle.tables.specs.Tables.{affixes, is_ii}
use Rattle.tables.proofs.Tested.{at}
use Rattle.tables.proofs.Facts.{affix_characters, strip_suffix_characters, prefix_form_one}
use Rattle.strips.specs.Suffix.{first_length, is_long, keeps_pronoun}
use Rattle.strips.specs.Prefix.{least_after}

pub affix_first : (k : ℕ) → k < 25 → first_length (get_or affixes k []) ≡ 3
unfolding affixes plural_markers case_markers particles opens within
affix_first k h = eqb-true (first_length (get_or affixes k [])) 3 (at (λ k t. eqb (first_length t) 3) affixes refl k [] h)

pub suffix_first : (k : ℕ) → k < 24 → first_length (get_or suffixes k []) ≡ 3
unfolding suffixes opens within
suffix_first k h = eqb-true (first_length (get_or suffixes k [])) 3 (at (λ k t. eqb (first_length t) 3) suffixes refl k [] h)

pub strip_suffix_first : (k : ℕ) → k < 22 → first_length (get_or strip_suffixes k []) ≡ 3
unfolding strip_suffixes opens within
strip_suffix_first k h = eqb-true (first_length (get_or strip_suffixes k [])) 3 (at (λ k t. eqb (first_length t) 3) strip_suffixes refl k [] h)

-- so each of these has a shared remainder where it has a plain one
pub affix_long : (k : ℕ) → k < 25 → is_long (get_or affixes k []) ≡ true
unfolding is_long
affix_long k h = lt-ltb 1 (chars (get_or affixes k [])) (affix_characters k h)

pub strip_suffix_long : (k : ℕ) → k < 22 → is_long (get_or strip_suffixes k []) ≡ true
unfolding is_long
strip_suffix_long k h = lt-ltb 1 (chars (get_or strip_suffixes k [])) (strip_suffix_characters k h)

-- the rule of pronouns keeps none of the 25 texts
other : (k : ℕ) → k < 25 → is_ii (get_or affixes k []) ≡ false
unfolding affixes plural_markers case_markers particles is_ii
other k h = not-true (is_ii (get_or affixes k [])) (at (λ k t. not (is_ii t)) affixes refl k [] h)

pub affix_strips : (pronoun spelled : Bool) (k : ℕ) → k < 25 → keeps_pronoun pronoun spelled (get_or affixes k []) ≡ false
unfolding keeps_pronoun
affix_strips pronoun spelled k h = rw (other k h) (go pronoun spelled)
  where
    go : (a b : Bool) → (a && (not b && false)) ≡ false
    go true true = refl
    go true false = refl
    go false b = refl

-- a prefix form leaves 4 characters in rows 28 and 29, and 2 in all others
pub prefix_form_least : (k : ℕ) → k < 30 → least_after (get_or prefix_forms k []) ≡ pick (leb 28 k) 4 2
unfolding least_after
prefix_form_least k h = ap (λ (b : Bool). pick b 4 2) (prefix_form_one k h)
