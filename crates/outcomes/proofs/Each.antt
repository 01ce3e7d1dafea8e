-- Each thing that document 01 lists has the outcome that stands beside it in specs/Each, proved together. Assumes nothing.
use Rattle.std.specs.Prelude.{Ok}
use mathlib.Core.Path.{◌≡◌, refl}
use mathlib.Core.List.{map}
use Rattle.text.specs.Utf8.{within, utf8_char, opened, after, run, is_utf8}
use Rattle.text.specs.Characters.{opens, chars}
use Rattle.text.specs.Names.{forbidden, name_run, holds_forbidden}
use Rattle.text.specs.Word.{word_check}
use Rattle.tables.specs.Rows.{prefix_labels, prefix_forms, plural_markers, case_markers, particles, strip_suffixes, origin_words, origin_tags}
use Rattle.tables.specs.Origins.{origin_of}
use Rattle.tables.specs.Tables.{affixes}
use Rattle.refusals.specs.Refusals.{numbers_of}
use Rattle.sheet.specs.Letters.{tag_of, letters_of, well_kept, is_letters}
use Rattle.sheet.specs.Forms.{entry_of, written, is_name, is_kind, is_meant, is_form}
use Rattle.sheet.specs.Lines.{judged, sheet_check}
use Rattle.sheet.specs.Inputs.{inputs_of}
use Rattle.sheet.specs.Replies.{reply}
use Rattle.lookup.specs.Search.{place_of}
use Rattle.strips.specs.Suffix.{sheds, is_long, plain, shared, remainders}
use Rattle.strips.specs.Prefix.{least_after, leaves, prefix_remainder}
use Rattle.progressive.specs.Progressive.{regular, lemma_of, is_shaped, progressive_of}
use Rattle.progressive.specs.Answers.{answer_of}
use Rattle.origin.specs.Marks.{contains_one, ends_in_one, aagantuk_marks, has_aagantuk_markers, tatsam_marks, has_tatsam_markers, tadbhav_ends, has_tadbhav_markers, heuristic_of}
use Rattle.origin.specs.Decisions.{known_in, known_by, known_rest, known_under, known_stem, decision_of}
use Rattle.origin.specs.Answers.{decision_answer}
use Rattle.ranking.specs.Parts.{part}
use Rattle.ranking.specs.Rank.{ahead_of}
use Rattle.ranking.specs.Lists.{ranked, plus, plus_all}
use Rattle.paths.specs.Support.{known_with, is_supported, score_of}
use Rattle.paths.specs.Readings.{classified}
use Rattle.paths.specs.Walk.{root_walk, over_forms, second_walk, stem_walk, rows_walk, piece_walk}
use Rattle.analysis.specs.Answers.{said_of, rows_given}
use Rattle.runs.specs.Bytes.{index_after, index_of}
use Rattle.writing.specs.Decimal.{digits_in, decimal}
use Rattle.writing.specs.Refused.{refused_text}
use Rattle.listing.specs.Texts.{segment_text, reading_text, row_text, listing_text}
use Rattle.listing.specs.Printed.{readings_text, printed}
use Rattle.outcomes.specs.Words.{ghar, khai, nakhai, khanu, rahanu, gari, garnu, garanu}
use Rattle.outcomes.specs.Outcomes.{outcome_of}
use Rattle.outcomes.specs.Cases.{Case}
use Rattle.outcomes.specs.Each.{forms, Classed, origins, kinds, refusals, Numbered, numbers}

-- every ending, every place where a lemma is looked for
pub forms_worked : map (λ (c : Case). outcome_of c.asked) forms ≡ map (λ (c : Case). c.outcome) forms
unfolding within utf8_char opened after run is_utf8 forbidden name_run holds_forbidden word_check tag_of letters_of well_kept is_letters entry_of written is_name
    is_kind is_meant is_form judged sheet_check inputs_of reply place_of regular lemma_of is_shaped progressive_of answer_of part
    khai nakhai khanu rahanu gari garnu garanu forms
forms_worked = refl

-- every rule and every mark of origin, with its confidence by its bits
pub origins_worked : map (λ (c : Classed). decision_answer c.name c.sheet) origins ≡ map (λ (c : Classed). Ok c.decision) origins
unfolding within utf8_char opened after run is_utf8 opens chars forbidden name_run holds_forbidden word_check tag_of letters_of well_kept is_letters entry_of written
    is_name is_kind is_meant is_form judged sheet_check inputs_of reply sheds is_long plain shared remainders strip_suffixes origin_words origin_tags origin_of
    contains_one ends_in_one aagantuk_marks has_aagantuk_markers tatsam_marks has_tatsam_markers tadbhav_ends has_tadbhav_markers heuristic_of known_in known_by
    known_rest known_under known_stem decision_of decision_answer ghar origins
origins_worked = refl

-- every kind, both by the suffix's group and by a kind line
pub kinds_worked : map (λ (c : Case). outcome_of c.asked) kinds ≡ map (λ (c : Case). c.outcome) kinds
unfolding within utf8_char opened after run is_utf8 opens chars forbidden name_run holds_forbidden word_check prefix_labels prefix_forms plural_markers
    case_markers particles affixes tag_of letters_of well_kept is_letters entry_of written is_name is_kind is_meant is_form judged sheet_check inputs_of reply
    sheds is_long plain shared least_after leaves prefix_remainder regular lemma_of is_shaped progressive_of part ahead_of ranked plus
    plus_all known_with is_supported score_of root_walk over_forms second_walk stem_walk rows_walk piece_walk said_of rows_given
    index_after index_of printed readings_text listing_text row_text reading_text segment_text decimal digits_in remainders
    classified decision_of known_in known_by known_rest known_under known_stem strip_suffixes origin_words origin_tags origin_of contains_one ends_in_one aagantuk_marks
    has_aagantuk_markers tatsam_marks has_tatsam_markers tadbhav_ends has_tadbhav_markers heuristic_of ghar kinds
kinds_worked = refl

-- refusals of a word and of a sheet, as they are printed
pub refusals_worked : map (λ (c : Case). outcome_of c.asked) refusals ≡ map (λ (c : Case). c.outcome) refusals
unfolding within utf8_char opened after run is_utf8 forbidden name_run holds_forbidden word_check tag_of letters_of well_kept is_letters entry_of written is_name
    is_kind is_meant is_form judged sheet_check inputs_of reply said_of rows_given index_after index_of printed readings_text refused_text decimal digits_in ghar
    refusals
refusals_worked = refl

-- every number
pub numbers_worked : map (λ (c : Numbered). refused_text (numbers_of c.refusal)) numbers ≡ map (λ (c : Numbered). c.line) numbers
unfolding refused_text decimal digits_in numbers
numbers_worked = refl
