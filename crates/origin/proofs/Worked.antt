-- Decisions and refusals worked by hand, as one list of inputs with their outcomes: that the definitions say what document 01 means.
-- Assumes nothing.
use Rattle.std.specs.Prelude.{Err, Ok, Result}
use Rattle.refusals.specs.declared.Refusal.{Refusal}
use Rattle.origin.specs.declared.OriginDecision.{OriginDecision}
use mathlib.Core.Path.{◌≡◌, refl}
use mathlib.Core.List.{List, [], ◌∷◌, ◌++◌, map}
use Prim.Native.Nat.{ℕ}
use Rattle.text.specs.Utf8.{within, utf8_char, opened, after, run, is_utf8}
use Rattle.text.specs.Characters.{opens, chars}
use Rattle.text.specs.Names.{forbidden, name_run, holds_forbidden}
use Rattle.text.specs.Word.{word_check}
use Rattle.tables.specs.Rows.{strip_suffixes, origin_words, origin_tags}
use Rattle.tables.specs.Origins.{origin_of}
use Rattle.tables.specs.declared.origins.Origin.TheVariants.{Tatsam, Tadbhav, Deshaj, Aagantuk}
use Rattle.sheet.specs.Letters.{tag_of, letters_of, well_kept, is_letters}
use Rattle.sheet.specs.Forms.{entry_of, written, is_name, is_kind, is_meant, is_form}
use Rattle.sheet.specs.Lines.{judged, sheet_check}
use Rattle.sheet.specs.Inputs.{inputs_of}
use Rattle.sheet.specs.Replies.{reply}
use Rattle.refusals.specs.declared.Refusal.TheVariants.{WordNotUtf8, WordForbidden, SheetNoForm, SheetNotAbove}
use Rattle.strips.specs.Suffix.{sheds, is_long, plain, shared, remainders}
use Rattle.origin.specs.Marks.{contains_one, ends_in_one, aagantuk_marks, nukta, has_aagantuk_markers, tatsam_marks, has_tatsam_markers, tadbhav_ends, has_tadbhav_markers, heuristic_of}
use Rattle.origin.specs.Decisions.{none, by_mark, by_stem, by_word, sure, decided, known_in, known_by, known_rest, known_under, known_stem, decision_of}
use Rattle.origin.specs.Answers.{decision_answer}
use Rattle.origin.specs.declared.OriginSource.TheVariants.{Override, Kosha, Heuristic, Unknown}

-- घर
abbrev ghar : List ℕ
ghar = 0xE0 ∷ 0xA4 ∷ 0x98 ∷ 0xE0 ∷ 0xA4 ∷ 0xB0 ∷ []

-- क
abbrev ka : List ℕ
ka = 0xE0 ∷ 0xA4 ∷ 0x95 ∷ []

-- को
abbrev ko : List ℕ
ko = 0xE0 ∷ 0xA4 ∷ 0x95 ∷ 0xE0 ∷ 0xA5 ∷ 0x8B ∷ []

-- कृति
abbrev kriti : List ℕ
kriti = 0xE0 ∷ 0xA4 ∷ 0x95 ∷ 0xE0 ∷ 0xA5 ∷ 0x83 ∷ 0xE0 ∷ 0xA4 ∷ 0xA4 ∷ 0xE0 ∷ 0xA4 ∷ 0xBF ∷ []

-- ऋण
abbrev rin : List ℕ
rin = 0xE0 ∷ 0xA4 ∷ 0x8B ∷ 0xE0 ∷ 0xA4 ∷ 0xA3 ∷ []

-- त
abbrev ta : List ℕ
ta = 0xE0 ∷ 0xA4 ∷ 0xA4 ∷ []

-- ष
abbrev sha : List ℕ
sha = 0xE0 ∷ 0xA4 ∷ 0xB7 ∷ []

-- गाडा
abbrev gada : List ℕ
gada = 0xE0 ∷ 0xA4 ∷ 0x97 ∷ 0xE0 ∷ 0xA4 ∷ 0xBE ∷ 0xE0 ∷ 0xA4 ∷ 0xA1 ∷ 0xE0 ∷ 0xA4 ∷ 0xBE ∷ []

-- a `w` line, and a line that is no form
abbrev line : List ℕ → List ℕ → List ℕ
line name letters = written (record { letter = 0x77; name = name; value = letters })

abbrev no_form : List ℕ
no_form = 0x28 ∷ 0x0A ∷ []

record Input : Type 0 where
  word : List ℕ
  sheet : List ℕ

abbrev input : List ℕ → List ℕ → Input
input w s = record { word = w; sheet = s }

abbrev answer : Input → Result OriginDecision Refusal
answer i = decision_answer i.word i.sheet

abbrev inputs : List Input
inputs =
    input [] [] ∷  -- the empty word
    input kriti (line kriti (0x77 ∷ 0x68 ∷ 0x64 ∷ [])) ∷  -- in the table, whatever its tag
    input ghar (line ghar (0x77 ∷ 0x68 ∷ 0x62 ∷ [])) ∷  -- the word's tag
    input rin (line rin (0x77 ∷ 0x68 ∷ [])) ∷  -- a headword without tag, though ऋ is a mark
    input (ghar ++ ko) (line ghar (0x68 ∷ 0x74 ∷ [])) ∷  -- the tag of the plain remainder
    input (ghar ++ ko) (line ghar (0x68 ∷ []) ++ line (ghar ++ ka) (0x68 ∷ 0x74 ∷ [])) ∷  -- the plain remainder, a headword without tag, stops the search
    input (ghar ++ ko) (line (ghar ++ ka) (0x68 ∷ 0x74 ∷ [])) ∷  -- the tag of the shared remainder
    input (ta ++ ko) (line ta (0x68 ∷ 0x74 ∷ [])) ∷  -- a remainder of one character is not asked for; an end in को
    input (kriti ++ ko) [] ∷  -- the table is not asked for a remainder; ृ before को
    input (nukta ++ ka) [] ∷  -- the nukta first
    input (ka ++ nukta ++ sha) [] ∷  -- the nukta second, before ष
    input gada [] ∷  -- ा right after ड
    input ka [] ∷  -- no mark
    input (0xE0 ∷ 0x20 ∷ []) no_form ∷  -- no UTF-8, with a forbidden byte, and a faulty sheet
    input (ka ++ 0x20 ∷ ka) no_form ∷  -- a forbidden byte, and a faulty sheet
    input [] (line ghar (0x77 ∷ []) ++ no_form) ∷  -- the empty word, and a second line that is no form
    input [] (line ghar (0x77 ∷ []) ++ line ghar (0x77 ∷ [])) ∷  -- a second line that is a form, not above the first
    []

abbrev outcomes : List (Result OriginDecision Refusal)
outcomes =
    Ok (decided Deshaj Unknown none) ∷
    Ok (decided Tatsam Override sure) ∷
    Ok (decided Tadbhav Kosha by_word) ∷
    Ok (decided Deshaj Unknown none) ∷
    Ok (decided Tatsam Kosha by_stem) ∷
    Ok (decided Deshaj Unknown none) ∷
    Ok (decided Tatsam Kosha by_stem) ∷
    Ok (decided Tadbhav Heuristic by_mark) ∷
    Ok (decided Tatsam Heuristic by_mark) ∷
    Ok (decided Deshaj Unknown none) ∷
    Ok (decided Aagantuk Heuristic by_mark) ∷
    Ok (decided Tadbhav Heuristic by_mark) ∷
    Ok (decided Deshaj Unknown none) ∷
    Err WordNotUtf8 ∷
    Err WordForbidden ∷
    Err (SheetNoForm 15) ∷
    Err (SheetNotAbove 15) ∷
    []

pub worked : map answer inputs ≡ outcomes
unfolding decision_answer inputs_of word_check is_utf8 run after opened utf8_char within opens chars forbidden name_run holds_forbidden sheet_check judged
    is_form entry_of written is_name is_kind is_meant is_letters tag_of letters_of well_kept reply sheds is_long plain shared remainders strip_suffixes
    origin_words origin_tags origin_of contains_one ends_in_one aagantuk_marks has_aagantuk_markers tatsam_marks has_tatsam_markers tadbhav_ends has_tadbhav_markers
    heuristic_of known_in known_by known_rest known_under known_stem decision_of
worked = refl
