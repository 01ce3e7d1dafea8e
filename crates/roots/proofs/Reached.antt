-- The bound of 16 is reached. Assumes nothing.
use mathlib.Core.Path.{◌≡◌, refl}
use mathlib.Core.List.{List, [], ◌∷◌}
use Prim.Native.Nat.{ℕ}
use lib.ListN.{length}
use Rattle.text.specs.Utf8.{within}
use Rattle.text.specs.Characters.{opens, chars}
use Rattle.tables.specs.Rows.{prefix_forms, prefix_labels, suffixes}
use Rattle.tables.specs.Tables.{is_ii}
use Rattle.sheet.specs.Letters.{tag_of, letters_of}
use Rattle.sheet.specs.Replies.{Ask, told}
use Rattle.strips.specs.Suffix.{sheds, is_long, plain, shared, remainders, keeps_pronoun}
use Rattle.strips.specs.Prefix.{least_after, leaves}
use Rattle.ranking.specs.Parts.{part}
use Rattle.decomposition.specs.Strips.{is_word, label_row, least_root, is_kept, left_of, is_taken, strip_row, leaves_word}
use Rattle.decomposition.specs.Parts.{behind_front, decomposed_of}
use Rattle.roots.specs.Rank.{key_order, rank_of, ahead_of}
use Rattle.roots.specs.Lists.{holds_in, ranked, once, root_limit}
use Rattle.roots.specs.Candidates.{score_by, candidate_by, kept_of, kept_all, under_row, one_suffix, under_form, offers, candidates}

-- every name is known by w
abbrev all : Ask
all letter name = told (0x77 ∷ [])

-- निःघरपहाडितएको
abbrev word : List ℕ
word = 0xE0 ∷ 0xA4 ∷ 0xA8 ∷ 0xE0 ∷ 0xA4 ∷ 0xBF ∷ 0xE0 ∷ 0xA4 ∷ 0x83 ∷ 0xE0 ∷ 0xA4 ∷ 0x98 ∷ 0xE0 ∷ 0xA4 ∷ 0xB0 ∷ 0xE0 ∷ 0xA4 ∷ 0xAA ∷ 0xE0 ∷ 0xA4 ∷ 0xB9 ∷ 0xE0 ∷ 0xA4 ∷ 0xBE ∷ 0xE0 ∷ 0xA4 ∷ 0xA1 ∷ 0xE0 ∷ 0xA4 ∷ 0xBF ∷ 0xE0 ∷ 0xA4 ∷ 0xA4 ∷ 0xE0 ∷ 0xA4 ∷ 0x8F ∷ 0xE0 ∷ 0xA4 ∷ 0x95 ∷ 0xE0 ∷ 0xA5 ∷ 0x8B ∷ []

pub reached : length (candidates all word) ≡ root_limit
unfolding within opens chars prefix_forms prefix_labels suffixes is_ii tag_of letters_of sheds is_long plain shared remainders keeps_pronoun least_after leaves part is_word label_row
    least_root is_kept left_of is_taken strip_row leaves_word behind_front decomposed_of key_order rank_of ahead_of holds_in ranked once score_by candidate_by kept_of kept_all under_row
    one_suffix under_form offers candidates
reached = refl
