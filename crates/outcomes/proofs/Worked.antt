-- Document 01's worked cases, proved together: for every case of the list, what is asked has the outcome that stands beside it.
-- Assumes nothing.
use mathlib.Core.Path.{◌≡◌, refl}
use mathlib.Core.List.{map}
use Rattle.text.specs.Utf8.{within, utf8_char, opened, after, run, is_utf8}
use Rattle.text.specs.Characters.{opens, chars}
use Rattle.text.specs.Names.{forbidden, name_run, holds_forbidden}
use Rattle.text.specs.Word.{word_check}
use Rattle.tables.specs.Rows.{prefix_labels, prefix_forms, plural_markers, case_markers, particles, suffixes, strip_suffixes, origin_words, origin_tags}
use Rattle.tables.specs.Origins.{origin_of}
use Rattle.tables.specs.Tables.{affixes}
use Rattle.sheet.specs.Letters.{tag_of, letters_of, well_kept, is_letters}
use Rattle.sheet.specs.Forms.{entry_of, written, is_name, is_kind, is_meant, is_form}
use Rattle.sheet.specs.Lines.{judged, sheet_check}
use Rattle.sheet.specs.Inputs.{inputs_of}
use Rattle.sheet.specs.Replies.{reply}
use Rattle.lookup.specs.Search.{place_of}
use Rattle.strips.specs.Suffix.{sheds, is_long, plain, shared, remainders, keeps_pronoun}
use Rattle.strips.specs.Prefix.{least_after, leaves, prefix_remainder}
use Rattle.progressive.specs.Progressive.{regular, lemma_of, is_shaped, progressive_of}
use Rattle.progressive.specs.Answers.{answer_of}
use Rattle.origin.specs.Marks.{contains_one, ends_in_one, aagantuk_marks, has_aagantuk_markers, tatsam_marks, has_tatsam_markers, tadbhav_ends, has_tadbhav_markers, heuristic_of}
use Rattle.origin.specs.Decisions.{known_in, known_by, known_rest, known_under, known_stem, decision_of}
use Rattle.ranking.specs.Parts.{part}
use Rattle.ranking.specs.Rank.{ahead_of}
use Rattle.ranking.specs.Lists.{ranked, plus, plus_all}
use Rattle.paths.specs.Support.{known_with, is_supported, score_of}
use Rattle.paths.specs.Readings.{classified}
use Rattle.paths.specs.Walk.{root_walk, over_forms, second_walk, stem_walk, rows_walk, piece_walk}
use Rattle.analysis.specs.Answers.{said_of, rows_given}
use Rattle.decomposition.specs.Strips.{is_word, label_row, least_root, is_kept, left_of, is_taken, strip_row, leaves_word}
use Rattle.decomposition.specs.Parts.{behind_front, decomposed_of, morpheme_of}
use Rattle.decomposition.specs.Answers.{morpheme_answer}
use Rattle.runs.specs.Bytes.{index_after, index_of}
use Rattle.writing.specs.Decimal.{digits_in, decimal}
use Rattle.listing.specs.Texts.{segment_text, reading_text, row_text, listing_text}
use Rattle.listing.specs.Printed.{readings_text, printed}
use Rattle.outcomes.specs.Words.{ghar, gharle, le, nihshulk, shulk, nir, nis, amanav, manav, a, asaphal, saphal, khairaheko, nakhairaheko, khai, nakhai, khanu, rahanu, gariraheko, gari, garnu, garanu, listing, gharkota, gharko, ta, ko, gharl, gharat, gharatire, tira, re, shared_listing, twice_listing, kriti, kritile, table_listing, verb_listing, guest_listing}
use Rattle.outcomes.specs.Outcomes.{outcome_of}
use Rattle.outcomes.specs.Cases.{Case, cases}

pub worked : map (λ (c : Case). outcome_of c.asked) cases ≡ map (λ (c : Case). c.outcome) cases
unfolding within utf8_char opened after run is_utf8 opens chars forbidden name_run holds_forbidden word_check prefix_labels prefix_forms plural_markers
    case_markers particles affixes tag_of letters_of well_kept is_letters entry_of written is_name is_kind is_meant is_form judged sheet_check inputs_of reply
    place_of sheds is_long plain shared least_after leaves prefix_remainder regular lemma_of is_shaped progressive_of answer_of part ahead_of ranked plus
    plus_all known_with is_supported score_of root_walk over_forms second_walk stem_walk rows_walk piece_walk said_of rows_given
    ghar gharle le nihshulk shulk nir nis amanav manav a asaphal saphal khairaheko nakhairaheko khai nakhai khanu rahanu gariraheko gari garnu garanu
    listing index_after index_of printed readings_text listing_text row_text reading_text segment_text decimal digits_in
    gharkota gharko ta ko suffixes remainders keeps_pronoun is_word label_row least_root is_kept left_of is_taken strip_row leaves_word behind_front decomposed_of morpheme_of
    morpheme_answer gharl gharat gharatire tira re shared_listing twice_listing kriti kritile table_listing verb_listing guest_listing
    classified decision_of known_in known_by known_rest known_under known_stem strip_suffixes origin_words origin_tags origin_of contains_one ends_in_one aagantuk_marks
    has_aagantuk_markers tatsam_marks has_tatsam_markers tadbhav_ends has_tadbhav_markers heuristic_of cases
worked = refl
