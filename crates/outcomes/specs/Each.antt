-- Each thing that document 01 lists, by one input and its outcome: the endings of a progressive form and where its lemma is looked for,
-- every mark of origin and the five confidences by their bits, every kind as it is printed, every number of a refusal. What stands in the
-- definitions as a list of bytes is said here by code points, a second time. Assumes nothing.
use Rattle.std.specs.Prelude.{ℕ, zero, suc, ◌+◌, true, false, List, [], ◌∷◌, ◌++◌, ltb}
use Rattle.std.specs.Float.{binary32}
use Rattle.std.specs.Float.Ieee.{of_bits}
use Rattle.runs.specs.Runs.{pick}
use Rattle.refusals.specs.declared.Refusal.{Refusal}
use Rattle.refusals.specs.declared.Refusal.TheVariants.{WordTooLong, WordNotUtf8, WordForbidden, SheetTooLong, SheetNoForm, SheetNotAbove, TooManyReadings, OutputTooShort, TextTooLong, TextNotUtf8, ListTooShort}
use Rattle.tables.specs.declared.origins.Origin.TheVariants.{Tatsam, Tadbhav, Deshaj, Aagantuk}
use Rattle.origin.specs.Decisions.{decided}
use Rattle.origin.specs.declared.OriginDecision.{OriginDecision}
use Rattle.origin.specs.declared.OriginSource.TheVariants.{Override, Kosha, Heuristic, Unknown}
use Rattle.outcomes.specs.Words.{ghar, khai, nakhai, khanu, rahanu, gari, garnu, garanu}
use Rattle.outcomes.specs.Outcomes.{prints, progressive, text, form, no_form}
use Rattle.outcomes.specs.Cases.{line_of, word, head, verb, link, Case, case}

-- the character U+0900 and n more, for n below 80 (hexadecimal): E0, A4 or A5, and one byte more
abbrev pub letter : ℕ → List ℕ
letter n = pick (ltb n 0x40) (0xE0 ∷ 0xA4 ∷ (0x80 + n) ∷ []) (0xE0 ∷ 0xA5 ∷ (0x40 + n) ∷ [])

abbrev pub spelled : List ℕ → List ℕ
spelled [] = []
spelled (n ∷ ns) = letter n ++ spelled ns

abbrev pub copies : ℕ → ℕ → List ℕ
copies zero n = []
copies (suc k) n = n ∷ copies k n

-- Progressive forms: endings, what stands before them, and where the lemma is looked for.
unfoldable pub forms : List Case
forms =
    -- खाइरहेको: the three endings
    case (progressive (spelled (0x16 ∷ 0x3E ∷ 0x07 ∷ 0x30 ∷ 0x39 ∷ 0x47 ∷ 0x15 ∷ 0x4B ∷ [])) (verb khanu ++ verb rahanu))
    (form khai false khanu) ∷
    -- खाइरहेकी
    case (progressive (spelled (0x16 ∷ 0x3E ∷ 0x07 ∷ 0x30 ∷ 0x39 ∷ 0x47 ∷ 0x15 ∷ 0x40 ∷ [])) (verb khanu ++ verb rahanu))
    (form khai false khanu) ∷
    -- खाइरहेका
    case (progressive (spelled (0x16 ∷ 0x3E ∷ 0x07 ∷ 0x30 ∷ 0x39 ∷ 0x47 ∷ 0x15 ∷ 0x3E ∷ [])) (verb khanu ++ verb rahanu))
    (form khai false khanu) ∷
    -- खाइरहेके: and none besides
    case (progressive (spelled (0x16 ∷ 0x3E ∷ 0x07 ∷ 0x30 ∷ 0x39 ∷ 0x47 ∷ 0x15 ∷ 0x47 ∷ [])) (verb khanu ++ verb rahanu))
    no_form ∷
    -- गरिरहेको: ि before the ending; stem+्नु
    case (progressive (spelled (0x17 ∷ 0x30 ∷ 0x3F ∷ 0x30 ∷ 0x39 ∷ 0x47 ∷ 0x15 ∷ 0x4B ∷ [])) (verb garnu ++ verb rahanu))
    (form gari false garnu) ∷
    -- गररहेको: neither ि nor इ before it
    case (progressive (spelled (0x17 ∷ 0x30 ∷ 0x30 ∷ 0x39 ∷ 0x47 ∷ 0x15 ∷ 0x4B ∷ [])) (verb garnu ++ verb rahanu))
    no_form ∷
    -- गरिरहेको: stem+नु comes first
    case (progressive (spelled (0x17 ∷ 0x30 ∷ 0x3F ∷ 0x30 ∷ 0x39 ∷ 0x47 ∷ 0x15 ∷ 0x4B ∷ [])) (verb garanu ++ verb garnu ++ verb rahanu))
    (form gari false garanu) ∷
    -- पाइरहेको: stem+उनु after ा
    case (progressive (spelled (0x2A ∷ 0x3E ∷ 0x07 ∷ 0x30 ∷ 0x39 ∷ 0x47 ∷ 0x15 ∷ 0x4B ∷ [])) (verb (spelled (0x2A ∷ 0x3E ∷ 0x09 ∷ 0x28 ∷ 0x41 ∷ [])) ++ verb rahanu))
    (form (spelled (0x2A ∷ 0x3E ∷ 0x07 ∷ [])) false (spelled (0x2A ∷ 0x3E ∷ 0x09 ∷ 0x28 ∷ 0x41 ∷ []))) ∷
    -- आइरहेको: and after आ
    case (progressive (spelled (0x06 ∷ 0x07 ∷ 0x30 ∷ 0x39 ∷ 0x47 ∷ 0x15 ∷ 0x4B ∷ [])) (verb (spelled (0x06 ∷ 0x09 ∷ 0x28 ∷ 0x41 ∷ [])) ++ verb rahanu))
    (form (spelled (0x06 ∷ 0x07 ∷ [])) false (spelled (0x06 ∷ 0x09 ∷ 0x28 ∷ 0x41 ∷ []))) ∷
    -- गरिरहेको: but after no other
    case (progressive (spelled (0x17 ∷ 0x30 ∷ 0x3F ∷ 0x30 ∷ 0x39 ∷ 0x47 ∷ 0x15 ∷ 0x4B ∷ [])) (verb (spelled (0x17 ∷ 0x30 ∷ 0x09 ∷ 0x28 ∷ 0x41 ∷ [])) ++ verb rahanu))
    no_form ∷
    -- गरिरहेको: linked form+नु comes last
    case (progressive (spelled (0x17 ∷ 0x30 ∷ 0x3F ∷ 0x30 ∷ 0x39 ∷ 0x47 ∷ 0x15 ∷ 0x4B ∷ [])) (verb (spelled (0x17 ∷ 0x30 ∷ 0x3F ∷ 0x28 ∷ 0x41 ∷ [])) ++ verb rahanu))
    (form gari false (spelled (0x17 ∷ 0x30 ∷ 0x3F ∷ 0x28 ∷ 0x41 ∷ []))) ∷
    -- पाइरहेको
    case (progressive (spelled (0x2A ∷ 0x3E ∷ 0x07 ∷ 0x30 ∷ 0x39 ∷ 0x47 ∷ 0x15 ∷ 0x4B ∷ [])) (verb (spelled (0x2A ∷ 0x3E ∷ 0x07 ∷ 0x28 ∷ 0x41 ∷ [])) ++ verb (spelled (0x2A ∷ 0x3E ∷ 0x09 ∷ 0x28 ∷ 0x41 ∷ [])) ++ verb rahanu))
    (form (spelled (0x2A ∷ 0x3E ∷ 0x07 ∷ [])) false (spelled (0x2A ∷ 0x3E ∷ 0x09 ∷ 0x28 ∷ 0x41 ∷ []))) ∷
    -- गरिरहेको: a link line's infinitive decides alone
    case (progressive (spelled (0x17 ∷ 0x30 ∷ 0x3F ∷ 0x30 ∷ 0x39 ∷ 0x47 ∷ 0x15 ∷ 0x4B ∷ [])) (link gari garnu ++ verb garanu ++ verb garnu ++ verb rahanu))
    (form gari false garnu) ∷
    -- इरहेको: an empty stem has no lemma
    case (progressive (spelled (0x07 ∷ 0x30 ∷ 0x39 ∷ 0x47 ∷ 0x15 ∷ 0x4B ∷ [])) (verb (spelled (0x28 ∷ 0x41 ∷ [])) ++ verb rahanu))
    no_form ∷
    -- गर्इरहेको: nor has one that ends in ्
    case (progressive (spelled (0x17 ∷ 0x30 ∷ 0x4D ∷ 0x07 ∷ 0x30 ∷ 0x39 ∷ 0x47 ∷ 0x15 ∷ 0x4B ∷ [])) (verb garnu ++ verb rahanu))
    no_form ∷
    -- खाइरहेको: रहनु must be a verb
    case (progressive (spelled (0x16 ∷ 0x3E ∷ 0x07 ∷ 0x30 ∷ 0x39 ∷ 0x47 ∷ 0x15 ∷ 0x4B ∷ [])) (verb khanu ++ head rahanu))
    no_form ∷
    -- खाइरहेको: and so must the lemma
    case (progressive (spelled (0x16 ∷ 0x3E ∷ 0x07 ∷ 0x30 ∷ 0x39 ∷ 0x47 ∷ 0x15 ∷ 0x4B ∷ [])) (head khanu ++ verb rahanu))
    no_form ∷
    -- नखाइरहेको: one leading न is removed, and no second one
    case (progressive (spelled (0x28 ∷ 0x16 ∷ 0x3E ∷ 0x07 ∷ 0x30 ∷ 0x39 ∷ 0x47 ∷ 0x15 ∷ 0x4B ∷ [])) (verb khanu ++ verb rahanu))
    (form nakhai true khanu) ∷
    -- ननखाइरहेको
    case (progressive (spelled (0x28 ∷ 0x28 ∷ 0x16 ∷ 0x3E ∷ 0x07 ∷ 0x30 ∷ 0x39 ∷ 0x47 ∷ 0x15 ∷ 0x4B ∷ [])) (verb khanu ++ verb rahanu))
    no_form ∷
    -- नखाइरहेको: only where no lemma is found with it
    case (progressive (spelled (0x28 ∷ 0x16 ∷ 0x3E ∷ 0x07 ∷ 0x30 ∷ 0x39 ∷ 0x47 ∷ 0x15 ∷ 0x4B ∷ [])) (verb khanu ++ verb (spelled (0x28 ∷ 0x16 ∷ 0x3E ∷ 0x28 ∷ 0x41 ∷ [])) ++ verb rahanu))
    (form nakhai false (spelled (0x28 ∷ 0x16 ∷ 0x3E ∷ 0x28 ∷ 0x41 ∷ []))) ∷
    []

-- Origins: of a word and a sheet, the decision.
pub record Classed : Type 0 where
  pub name : List ℕ
  pub sheet : List ℕ
  pub decision : OriginDecision

abbrev pub classed : List ℕ → List ℕ → OriginDecision → Classed
classed w s d = record { name = w; sheet = s; decision = d }

unfoldable pub origins : List Classed
origins =
    classed [] [] (decided Deshaj Unknown (of_bits binary32 0x00000000)) ∷  -- the empty word
    classed (spelled (0x15 ∷ 0x43 ∷ 0x24 ∷ 0x3F ∷ [])) [] (decided Tatsam Override (of_bits binary32 0x3F800000)) ∷  -- कृति: in the table: 1.0
    classed ghar (line_of 0x77 ghar (0x68 ∷ 0x74 ∷ [])) (decided Tatsam Kosha (of_bits binary32 0x3F733333)) ∷  -- घर: the tag t of the word: 0.95
    classed ghar (line_of 0x77 ghar (0x68 ∷ 0x62 ∷ [])) (decided Tadbhav Kosha (of_bits binary32 0x3F733333)) ∷  -- घर: the tag b of the word: 0.95
    classed ghar (line_of 0x77 ghar (0x68 ∷ 0x64 ∷ [])) (decided Deshaj Kosha (of_bits binary32 0x3F733333)) ∷  -- घर: the tag d of the word: 0.95
    classed ghar (line_of 0x77 ghar (0x68 ∷ 0x61 ∷ [])) (decided Aagantuk Kosha (of_bits binary32 0x3F733333)) ∷  -- घर: the tag a of the word: 0.95
    classed ghar (head ghar) (decided Deshaj Unknown (of_bits binary32 0x00000000)) ∷  -- घर: a headword without tag: 0.0
    classed (spelled (0x18 ∷ 0x30 ∷ 0x15 ∷ 0x4B ∷ [])) (line_of 0x77 ghar (0x68 ∷ 0x62 ∷ [])) (decided Tadbhav Kosha (of_bits binary32 0x3F666666)) ∷  -- घरको: the tag of a remainder: 0.90
    classed (spelled (0x18 ∷ 0x30 ∷ 0x15 ∷ 0x4B ∷ [])) (head ghar) (decided Deshaj Unknown (of_bits binary32 0x00000000)) ∷  -- घरको: a remainder that is a headword without tag
    classed ghar [] (decided Deshaj Unknown (of_bits binary32 0x00000000)) ∷  -- घर: no mark
    classed (spelled (0x16 ∷ 0x58 ∷ [])) [] (decided Aagantuk Heuristic (of_bits binary32 0x3F266666)) ∷  -- खक़: U+0958: 0.65
    classed (spelled (0x16 ∷ 0x59 ∷ [])) [] (decided Aagantuk Heuristic (of_bits binary32 0x3F266666)) ∷  -- खख़: U+0959
    classed (spelled (0x16 ∷ 0x5A ∷ [])) [] (decided Aagantuk Heuristic (of_bits binary32 0x3F266666)) ∷  -- खग़: U+095A
    classed (spelled (0x16 ∷ 0x5B ∷ [])) [] (decided Aagantuk Heuristic (of_bits binary32 0x3F266666)) ∷  -- खज़: U+095B
    classed (spelled (0x16 ∷ 0x5C ∷ [])) [] (decided Aagantuk Heuristic (of_bits binary32 0x3F266666)) ∷  -- खड़: U+095C
    classed (spelled (0x16 ∷ 0x5D ∷ [])) [] (decided Aagantuk Heuristic (of_bits binary32 0x3F266666)) ∷  -- खढ़: U+095D
    classed (spelled (0x16 ∷ 0x5E ∷ [])) [] (decided Aagantuk Heuristic (of_bits binary32 0x3F266666)) ∷  -- खफ़: U+095E
    classed (spelled (0x16 ∷ 0x5F ∷ [])) [] (decided Aagantuk Heuristic (of_bits binary32 0x3F266666)) ∷  -- खय़: U+095F
    classed (spelled (0x16 ∷ 0x57 ∷ [])) [] (decided Deshaj Unknown (of_bits binary32 0x00000000)) ∷  -- खॗ: the characters on either side of them are no marks
    classed (spelled (0x16 ∷ 0x60 ∷ [])) [] (decided Deshaj Unknown (of_bits binary32 0x00000000)) ∷  -- खॠ
    classed (spelled (0x16 ∷ 0x3C ∷ [])) [] (decided Aagantuk Heuristic (of_bits binary32 0x3F266666)) ∷  -- ख़: U+093C, but not as the first character
    classed (spelled (0x3C ∷ 0x16 ∷ [])) [] (decided Deshaj Unknown (of_bits binary32 0x00000000)) ∷  -- ़ख
    classed (spelled (0x16 ∷ 0x0B ∷ 0x16 ∷ [])) [] (decided Tatsam Heuristic (of_bits binary32 0x3F266666)) ∷  -- खऋख: ऋ
    classed (spelled (0x16 ∷ 0x43 ∷ 0x16 ∷ [])) [] (decided Tatsam Heuristic (of_bits binary32 0x3F266666)) ∷  -- खृख: ृ
    classed (spelled (0x16 ∷ 0x37 ∷ 0x16 ∷ [])) [] (decided Tatsam Heuristic (of_bits binary32 0x3F266666)) ∷  -- खषख: ष
    classed (spelled (0x16 ∷ 0x03 ∷ 0x16 ∷ [])) [] (decided Tatsam Heuristic (of_bits binary32 0x3F266666)) ∷  -- खःख: ः
    classed (spelled (0x16 ∷ 0x15 ∷ 0x4D ∷ 0x37 ∷ 0x16 ∷ [])) [] (decided Tatsam Heuristic (of_bits binary32 0x3F266666)) ∷  -- खक्षख: क्ष
    classed (spelled (0x16 ∷ 0x1C ∷ 0x4D ∷ 0x1E ∷ 0x16 ∷ [])) [] (decided Tatsam Heuristic (of_bits binary32 0x3F266666)) ∷  -- खज्ञख: ज्ञ
    classed (spelled (0x16 ∷ 0x15 ∷ 0x4D ∷ 0x24 ∷ 0x16 ∷ [])) [] (decided Tatsam Heuristic (of_bits binary32 0x3F266666)) ∷  -- खक्तख: क्त
    classed (spelled (0x16 ∷ 0x24 ∷ 0x4D ∷ 0x2E ∷ 0x16 ∷ [])) [] (decided Tatsam Heuristic (of_bits binary32 0x3F266666)) ∷  -- खत्मख: त्म
    classed (spelled (0x16 ∷ 0x24 ∷ 0x4D ∷ 0x30 ∷ 0x16 ∷ [])) [] (decided Tatsam Heuristic (of_bits binary32 0x3F266666)) ∷  -- खत्रख: त्र
    classed (spelled (0x16 ∷ 0x24 ∷ 0x4D ∷ 0x24 ∷ 0x16 ∷ [])) [] (decided Tatsam Heuristic (of_bits binary32 0x3F266666)) ∷  -- खत्तख: त्त
    classed (spelled (0x16 ∷ 0x26 ∷ 0x4D ∷ 0x27 ∷ 0x16 ∷ [])) [] (decided Tatsam Heuristic (of_bits binary32 0x3F266666)) ∷  -- खद्धख: द्ध
    classed (spelled (0x16 ∷ 0x26 ∷ 0x4D ∷ 0x2F ∷ 0x16 ∷ [])) [] (decided Tatsam Heuristic (of_bits binary32 0x3F266666)) ∷  -- खद्यख: द्य
    classed (spelled (0x16 ∷ 0x26 ∷ 0x4D ∷ 0x35 ∷ 0x16 ∷ [])) [] (decided Tatsam Heuristic (of_bits binary32 0x3F266666)) ∷  -- खद्वख: द्व
    classed (spelled (0x16 ∷ 0x26 ∷ 0x4D ∷ 0x2D ∷ 0x16 ∷ [])) [] (decided Deshaj Unknown (of_bits binary32 0x00000000)) ∷  -- खद्भख: द्भ is none
    classed (spelled (0x16 ∷ 0x15 ∷ 0x4D ∷ 0x16 ∷ 0x16 ∷ [])) [] (decided Deshaj Unknown (of_bits binary32 0x00000000)) ∷  -- खक्खख: क्ख is none
    classed (spelled (0x16 ∷ 0x24 ∷ 0x4D ∷ 0x16 ∷ 0x16 ∷ [])) [] (decided Deshaj Unknown (of_bits binary32 0x00000000)) ∷  -- खत्खख: त्ख is none
    classed (spelled (0x16 ∷ 0x28 ∷ 0x41 ∷ [])) [] (decided Tadbhav Heuristic (of_bits binary32 0x3F266666)) ∷  -- खनु: नु
    classed (spelled (0x16 ∷ 0x28 ∷ 0x47 ∷ [])) [] (decided Tadbhav Heuristic (of_bits binary32 0x3F266666)) ∷  -- खने: ने
    classed (spelled (0x16 ∷ 0x15 ∷ 0x4B ∷ [])) [] (decided Tadbhav Heuristic (of_bits binary32 0x3F266666)) ∷  -- खको: को
    classed (spelled (0x16 ∷ 0x20 ∷ 0x4B ∷ [])) [] (decided Tadbhav Heuristic (of_bits binary32 0x3F266666)) ∷  -- खठो: ठो
    classed (spelled (0x16 ∷ 0x21 ∷ 0x4B ∷ [])) [] (decided Tadbhav Heuristic (of_bits binary32 0x3F266666)) ∷  -- खडो: डो
    classed (spelled (0x16 ∷ 0x22 ∷ 0x4B ∷ [])) [] (decided Tadbhav Heuristic (of_bits binary32 0x3F266666)) ∷  -- खढो: ढो
    classed (spelled (0x16 ∷ 0x20 ∷ 0x3E ∷ [])) [] (decided Tadbhav Heuristic (of_bits binary32 0x3F266666)) ∷  -- खठा: ठा
    classed (spelled (0x16 ∷ 0x21 ∷ 0x3E ∷ [])) [] (decided Tadbhav Heuristic (of_bits binary32 0x3F266666)) ∷  -- खडा: डा
    classed (spelled (0x16 ∷ 0x22 ∷ 0x3E ∷ [])) [] (decided Tadbhav Heuristic (of_bits binary32 0x3F266666)) ∷  -- खढा: ढा
    classed (spelled (0x28 ∷ 0x41 ∷ 0x16 ∷ [])) [] (decided Deshaj Unknown (of_bits binary32 0x00000000)) ∷  -- नुख: not at the end
    classed (spelled (0x16 ∷ 0x28 ∷ 0x4B ∷ [])) [] (decided Deshaj Unknown (of_bits binary32 0x00000000)) ∷  -- खनो: नो is none
    classed (spelled (0x16 ∷ 0x23 ∷ 0x4B ∷ [])) [] (decided Deshaj Unknown (of_bits binary32 0x00000000)) ∷  -- खणो: णो is none
    classed (spelled (0x16 ∷ 0x23 ∷ 0x3E ∷ [])) [] (decided Deshaj Unknown (of_bits binary32 0x00000000)) ∷  -- खणा: णा is none
    classed (spelled (0x16 ∷ 0x20 ∷ 0x47 ∷ [])) [] (decided Deshaj Unknown (of_bits binary32 0x00000000)) ∷  -- खठे: ठे is none
    classed (spelled (0x37 ∷ 0x4B ∷ 0x3C ∷ [])) [] (decided Aagantuk Heuristic (of_bits binary32 0x3F266666)) ∷  -- षो़: Aagantuk comes before Tatsam
    classed (spelled (0x37 ∷ 0x15 ∷ 0x4B ∷ [])) [] (decided Tatsam Heuristic (of_bits binary32 0x3F266666)) ∷  -- षको: and Tatsam before Tadbhav
    []

-- Kinds as they are printed, each once; post and comp are said by kind lines.
unfoldable pub kinds : List Case
kinds =
    -- घरहरू: plural
    -- (list 1)
    -- (r घर घर () ((हरू plural)) 130 d)
    case (prints (spelled (0x18 ∷ 0x30 ∷ 0x39 ∷ 0x30 ∷ 0x42 ∷ []) ++ 0x0A ∷ (word ghar)))
    (text ((0x28 ∷ 0x6C ∷ 0x69 ∷ 0x73 ∷ 0x74 ∷ 0x20 ∷ 0x31 ∷ 0x29 ∷ 0x0A ∷ 0x28 ∷ 0x72 ∷ 0x20 ∷ []) ++ ghar ++ (0x20 ∷ []) ++ ghar ++ (0x20 ∷ 0x28 ∷ 0x29 ∷ 0x20 ∷ 0x28 ∷ 0x28 ∷ []) ++ spelled (0x39 ∷ 0x30 ∷ 0x42 ∷ []) ++ (0x20 ∷ 0x70 ∷ 0x6C ∷ 0x75 ∷ 0x72 ∷ 0x61 ∷ 0x6C ∷ 0x29 ∷ 0x29 ∷ 0x20 ∷ 0x31 ∷ 0x33 ∷ 0x30 ∷ 0x20 ∷ 0x64 ∷ 0x29 ∷ 0x0A ∷ []))) ∷
    -- घरले: case
    -- (list 1)
    -- (r घर घर () ((ले case)) 129 d)
    case (prints (spelled (0x18 ∷ 0x30 ∷ 0x32 ∷ 0x47 ∷ []) ++ 0x0A ∷ (word ghar)))
    (text ((0x28 ∷ 0x6C ∷ 0x69 ∷ 0x73 ∷ 0x74 ∷ 0x20 ∷ 0x31 ∷ 0x29 ∷ 0x0A ∷ 0x28 ∷ 0x72 ∷ 0x20 ∷ []) ++ ghar ++ (0x20 ∷ []) ++ ghar ++ (0x20 ∷ 0x28 ∷ 0x29 ∷ 0x20 ∷ 0x28 ∷ 0x28 ∷ []) ++ spelled (0x32 ∷ 0x47 ∷ []) ++ (0x20 ∷ 0x63 ∷ 0x61 ∷ 0x73 ∷ 0x65 ∷ 0x29 ∷ 0x29 ∷ 0x20 ∷ 0x31 ∷ 0x32 ∷ 0x39 ∷ 0x20 ∷ 0x64 ∷ 0x29 ∷ 0x0A ∷ []))) ∷
    -- घरनै: particle
    -- (list 1)
    -- (r घर घर () ((नै particle)) 129 d)
    case (prints (spelled (0x18 ∷ 0x30 ∷ 0x28 ∷ 0x48 ∷ []) ++ 0x0A ∷ (word ghar)))
    (text ((0x28 ∷ 0x6C ∷ 0x69 ∷ 0x73 ∷ 0x74 ∷ 0x20 ∷ 0x31 ∷ 0x29 ∷ 0x0A ∷ 0x28 ∷ 0x72 ∷ 0x20 ∷ []) ++ ghar ++ (0x20 ∷ []) ++ ghar ++ (0x20 ∷ 0x28 ∷ 0x29 ∷ 0x20 ∷ 0x28 ∷ 0x28 ∷ []) ++ spelled (0x28 ∷ 0x48 ∷ []) ++ (0x20 ∷ 0x70 ∷ 0x61 ∷ 0x72 ∷ 0x74 ∷ 0x69 ∷ 0x63 ∷ 0x6C ∷ 0x65 ∷ 0x29 ∷ 0x29 ∷ 0x20 ∷ 0x31 ∷ 0x32 ∷ 0x39 ∷ 0x20 ∷ 0x64 ∷ 0x29 ∷ 0x0A ∷ []))) ∷
    -- घरले: post, by a kind line
    -- (list 1)
    -- (r घर घर () ((ले post)) 129 d)
    case (prints (spelled (0x18 ∷ 0x30 ∷ 0x32 ∷ 0x47 ∷ []) ++ 0x0A ∷ (line_of 0x6B (spelled (0x32 ∷ 0x47 ∷ [])) (0x70 ∷ 0x6F ∷ 0x73 ∷ 0x74 ∷ []) ++ word ghar)))
    (text ((0x28 ∷ 0x6C ∷ 0x69 ∷ 0x73 ∷ 0x74 ∷ 0x20 ∷ 0x31 ∷ 0x29 ∷ 0x0A ∷ 0x28 ∷ 0x72 ∷ 0x20 ∷ []) ++ ghar ++ (0x20 ∷ []) ++ ghar ++ (0x20 ∷ 0x28 ∷ 0x29 ∷ 0x20 ∷ 0x28 ∷ 0x28 ∷ []) ++ spelled (0x32 ∷ 0x47 ∷ []) ++ (0x20 ∷ 0x70 ∷ 0x6F ∷ 0x73 ∷ 0x74 ∷ 0x29 ∷ 0x29 ∷ 0x20 ∷ 0x31 ∷ 0x32 ∷ 0x39 ∷ 0x20 ∷ 0x64 ∷ 0x29 ∷ 0x0A ∷ []))) ∷
    -- घरले: comp, by a kind line
    -- (list 1)
    -- (r घर घर () ((ले comp)) 129 d)
    case (prints (spelled (0x18 ∷ 0x30 ∷ 0x32 ∷ 0x47 ∷ []) ++ 0x0A ∷ (line_of 0x6B (spelled (0x32 ∷ 0x47 ∷ [])) (0x63 ∷ 0x6F ∷ 0x6D ∷ 0x70 ∷ []) ++ word ghar)))
    (text ((0x28 ∷ 0x6C ∷ 0x69 ∷ 0x73 ∷ 0x74 ∷ 0x20 ∷ 0x31 ∷ 0x29 ∷ 0x0A ∷ 0x28 ∷ 0x72 ∷ 0x20 ∷ []) ++ ghar ++ (0x20 ∷ []) ++ ghar ++ (0x20 ∷ 0x28 ∷ 0x29 ∷ 0x20 ∷ 0x28 ∷ 0x28 ∷ []) ++ spelled (0x32 ∷ 0x47 ∷ []) ++ (0x20 ∷ 0x63 ∷ 0x6F ∷ 0x6D ∷ 0x70 ∷ 0x29 ∷ 0x29 ∷ 0x20 ∷ 0x31 ∷ 0x32 ∷ 0x39 ∷ 0x20 ∷ 0x64 ∷ 0x29 ∷ 0x0A ∷ []))) ∷
    -- घरहरू: a kind line is for its own suffix
    -- (list 1)
    -- (r घर घर () ((हरू post)) 130 d)
    case (prints (spelled (0x18 ∷ 0x30 ∷ 0x39 ∷ 0x30 ∷ 0x42 ∷ []) ++ 0x0A ∷ (line_of 0x6B (spelled (0x32 ∷ 0x47 ∷ [])) (0x63 ∷ 0x6F ∷ 0x6D ∷ 0x70 ∷ []) ++ line_of 0x6B (spelled (0x39 ∷ 0x30 ∷ 0x42 ∷ [])) (0x70 ∷ 0x6F ∷ 0x73 ∷ 0x74 ∷ []) ++ word ghar)))
    (text ((0x28 ∷ 0x6C ∷ 0x69 ∷ 0x73 ∷ 0x74 ∷ 0x20 ∷ 0x31 ∷ 0x29 ∷ 0x0A ∷ 0x28 ∷ 0x72 ∷ 0x20 ∷ []) ++ ghar ++ (0x20 ∷ []) ++ ghar ++ (0x20 ∷ 0x28 ∷ 0x29 ∷ 0x20 ∷ 0x28 ∷ 0x28 ∷ []) ++ spelled (0x39 ∷ 0x30 ∷ 0x42 ∷ []) ++ (0x20 ∷ 0x70 ∷ 0x6F ∷ 0x73 ∷ 0x74 ∷ 0x29 ∷ 0x29 ∷ 0x20 ∷ 0x31 ∷ 0x33 ∷ 0x30 ∷ 0x20 ∷ 0x64 ∷ 0x29 ∷ 0x0A ∷ []))) ∷
    []

-- Refusals as they are printed. 4 is told by Limits.input_of_65537, 7 by analysis/proofs/Promises.seven_exactly.
unfoldable pub refusals : List Case
refusals =
    -- a word of 193 bytes: (refused 1)
    case (prints ((spelled (copies 64 0x15) ++ (0x61 ∷ [])) ++ 0x0A ∷ []))
    (text (0x28 ∷ 0x72 ∷ 0x65 ∷ 0x66 ∷ 0x75 ∷ 0x73 ∷ 0x65 ∷ 0x64 ∷ 0x20 ∷ 0x31 ∷ 0x29 ∷ 0x0A ∷ [])) ∷
    -- no UTF-8: (refused 2)
    case (prints ((0xC0 ∷ 0x80 ∷ []) ++ 0x0A ∷ []))
    (text (0x28 ∷ 0x72 ∷ 0x65 ∷ 0x66 ∷ 0x75 ∷ 0x73 ∷ 0x65 ∷ 0x64 ∷ 0x20 ∷ 0x32 ∷ 0x29 ∷ 0x0A ∷ [])) ∷
    -- a space: (refused 3)
    case (prints ((ghar ++ (0x20 ∷ [])) ++ 0x0A ∷ []))
    (text (0x28 ∷ 0x72 ∷ 0x65 ∷ 0x66 ∷ 0x75 ∷ 0x73 ∷ 0x65 ∷ 0x64 ∷ 0x20 ∷ 0x33 ∷ 0x29 ∷ 0x0A ∷ [])) ∷
    -- a second line that is no form: (refused 5 15)
    case (prints (ghar ++ 0x0A ∷ (word ghar ++ (0x28 ∷ 0x77 ∷ 0x0A ∷ []))))
    (text (0x28 ∷ 0x72 ∷ 0x65 ∷ 0x66 ∷ 0x75 ∷ 0x73 ∷ 0x65 ∷ 0x64 ∷ 0x20 ∷ 0x35 ∷ 0x20 ∷ 0x31 ∷ 0x35 ∷ 0x29 ∷ 0x0A ∷ [])) ∷
    -- a second line that is not above the first: (refused 6 15)
    case (prints (ghar ++ 0x0A ∷ (word ghar ++ word ghar)))
    (text (0x28 ∷ 0x72 ∷ 0x65 ∷ 0x66 ∷ 0x75 ∷ 0x73 ∷ 0x65 ∷ 0x64 ∷ 0x20 ∷ 0x36 ∷ 0x20 ∷ 0x31 ∷ 0x35 ∷ 0x29 ∷ 0x0A ∷ [])) ∷
    []

-- Every number, with the place that comes with 5 and 6, as its line says it.
pub record Numbered : Type 0 where
  pub refusal : Refusal
  pub line : List ℕ

abbrev pub numbered : Refusal → List ℕ → Numbered
numbered r t = record { refusal = r; line = t }

unfoldable pub numbers : List Numbered
numbers =
    numbered WordTooLong (0x28 ∷ 0x72 ∷ 0x65 ∷ 0x66 ∷ 0x75 ∷ 0x73 ∷ 0x65 ∷ 0x64 ∷ 0x20 ∷ 0x31 ∷ 0x29 ∷ 0x0A ∷ []) ∷  -- (refused 1)
    numbered WordNotUtf8 (0x28 ∷ 0x72 ∷ 0x65 ∷ 0x66 ∷ 0x75 ∷ 0x73 ∷ 0x65 ∷ 0x64 ∷ 0x20 ∷ 0x32 ∷ 0x29 ∷ 0x0A ∷ []) ∷  -- (refused 2)
    numbered WordForbidden (0x28 ∷ 0x72 ∷ 0x65 ∷ 0x66 ∷ 0x75 ∷ 0x73 ∷ 0x65 ∷ 0x64 ∷ 0x20 ∷ 0x33 ∷ 0x29 ∷ 0x0A ∷ []) ∷  -- (refused 3)
    numbered SheetTooLong (0x28 ∷ 0x72 ∷ 0x65 ∷ 0x66 ∷ 0x75 ∷ 0x73 ∷ 0x65 ∷ 0x64 ∷ 0x20 ∷ 0x34 ∷ 0x29 ∷ 0x0A ∷ []) ∷  -- (refused 4)
    numbered (SheetNoForm 10) (0x28 ∷ 0x72 ∷ 0x65 ∷ 0x66 ∷ 0x75 ∷ 0x73 ∷ 0x65 ∷ 0x64 ∷ 0x20 ∷ 0x35 ∷ 0x20 ∷ 0x31 ∷ 0x30 ∷ 0x29 ∷ 0x0A ∷ []) ∷  -- (refused 5 10)
    numbered (SheetNotAbove 209) (0x28 ∷ 0x72 ∷ 0x65 ∷ 0x66 ∷ 0x75 ∷ 0x73 ∷ 0x65 ∷ 0x64 ∷ 0x20 ∷ 0x36 ∷ 0x20 ∷ 0x32 ∷ 0x30 ∷ 0x39 ∷ 0x29 ∷ 0x0A ∷ []) ∷  -- (refused 6 209)
    numbered TooManyReadings (0x28 ∷ 0x72 ∷ 0x65 ∷ 0x66 ∷ 0x75 ∷ 0x73 ∷ 0x65 ∷ 0x64 ∷ 0x20 ∷ 0x37 ∷ 0x29 ∷ 0x0A ∷ []) ∷  -- (refused 7)
    numbered OutputTooShort (0x28 ∷ 0x72 ∷ 0x65 ∷ 0x66 ∷ 0x75 ∷ 0x73 ∷ 0x65 ∷ 0x64 ∷ 0x20 ∷ 0x38 ∷ 0x29 ∷ 0x0A ∷ []) ∷  -- (refused 8)
    numbered TextTooLong (0x28 ∷ 0x72 ∷ 0x65 ∷ 0x66 ∷ 0x75 ∷ 0x73 ∷ 0x65 ∷ 0x64 ∷ 0x20 ∷ 0x39 ∷ 0x29 ∷ 0x0A ∷ []) ∷  -- (refused 9)
    numbered TextNotUtf8 (0x28 ∷ 0x72 ∷ 0x65 ∷ 0x66 ∷ 0x75 ∷ 0x73 ∷ 0x65 ∷ 0x64 ∷ 0x20 ∷ 0x32 ∷ 0x29 ∷ 0x0A ∷ []) ∷  -- (refused 2)
    numbered ListTooShort (0x28 ∷ 0x72 ∷ 0x65 ∷ 0x66 ∷ 0x75 ∷ 0x73 ∷ 0x65 ∷ 0x64 ∷ 0x20 ∷ 0x31 ∷ 0x30 ∷ 0x29 ∷ 0x0A ∷ []) ∷  -- (refused 10)
    []
