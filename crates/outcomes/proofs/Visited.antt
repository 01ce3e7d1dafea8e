-- How much looking the worked words cost (document 02 (n)). No piece of them has the shape of a progressive form but those of खाइरहेको, so
-- that the numbers of the others hold whatever the sheet replies: also where it makes 77 readings of the word, and the answer is 7.
-- Assumes nothing.
use mathlib.Core.Path.{◌≡◌, refl}
use mathlib.Core.List.{[], ◌∷◌, ◌++◌, map}
use Rattle.text.specs.Utf8.{within, utf8_char, opened, after, run, is_utf8}
use Rattle.text.specs.Characters.{opens, chars}
use Rattle.text.specs.Names.{forbidden, name_run, holds_forbidden}
use Rattle.text.specs.Word.{word_check}
use Rattle.tables.specs.Rows.{prefix_forms, plural_markers, case_markers, particles}
use Rattle.sheet.specs.Letters.{tag_of, letters_of, well_kept, is_letters}
use Rattle.sheet.specs.Forms.{entry_of, written, is_name, is_kind, is_meant, is_form}
use Rattle.sheet.specs.Lines.{judged, sheet_check}
use Rattle.sheet.specs.Inputs.{inputs_of}
use Rattle.sheet.specs.Replies.{Ask, reply}
use Rattle.lookup.specs.Search.{place_of}
use Rattle.strips.specs.Suffix.{sheds, is_long, plain, shared, remainders}
use Rattle.strips.specs.Prefix.{least_after, leaves, prefix_remainder}
use Rattle.progressive.specs.Progressive.{regular, lemma_of, is_shaped, progressive_of}
use Rattle.paths.specs.Visits.{total, prefix_visits, entry, suffix_visits, visits_of}
use Rattle.analysis.specs.Answers.{visits_given}
use Rattle.outcomes.specs.Words.{gharle, khairaheko, khanu, rahanu}
use Rattle.outcomes.specs.Heavy.{four_cases, three_and_particle, all_groups}
use Rattle.outcomes.specs.Cases.{verb}

-- the empty word, घरले, and the heavy words, under any replies
pub visits_worked : (ask : Ask) → map (visits_of ask) ([] ∷ gharle ∷ four_cases ∷ three_and_particle ∷ all_groups ∷ []) ≡ 0 ∷ 28 ∷ 304 ∷ 320 ∷ 320 ∷ []
unfolding within opens chars prefix_forms plural_markers case_markers particles sheds is_long plain shared remainders least_after leaves prefix_remainder is_shaped
    progressive_of total prefix_visits entry suffix_visits visits_of gharle four_cases three_and_particle all_groups
visits_worked ask = refl

-- a supported progressive form is entered once by each walk; where रहनु is no verb it is stripped
pub visits_progressive : map (visits_given khairaheko) ((verb khanu ++ verb rahanu) ∷ verb khanu ∷ []) ≡ 2 ∷ 28 ∷ []
unfolding within utf8_char opened after run is_utf8 opens chars forbidden name_run holds_forbidden word_check prefix_forms plural_markers case_markers particles
    tag_of letters_of well_kept is_letters entry_of written is_name is_kind is_meant is_form judged sheet_check inputs_of reply place_of sheds is_long plain shared
    remainders least_after leaves prefix_remainder regular lemma_of is_shaped progressive_of total prefix_visits entry suffix_visits visits_of visits_given
    khairaheko khanu rahanu
visits_progressive = refl
