-- The worked cases of document 01 for progressive forms, proved together: inputs and what `analyze_progressive` gives for them.
-- Assumes nothing.
use Rattle.std.specs.Prelude.{Err, Ok, Result, Option, Some, None}
use Rattle.refusals.specs.declared.Refusal.{Refusal}
use Rattle.progressive.specs.declared.find.Progressive.{Progressive}
use Prim.Native.Nat.{ℕ}
use mathlib.Core.Path.{◌≡◌, refl}
use mathlib.Core.Bool.{true, false}
use mathlib.Core.List.{List, [], ◌∷◌, map}
use Rattle.text.specs.Utf8.{is_utf8, run, after, opened, utf8_char, within}
use Rattle.text.specs.Names.{forbidden, name_run, holds_forbidden}
use Rattle.text.specs.Word.{word_check}
use Rattle.sheet.specs.Letters.{tag_of, letters_of, well_kept, is_letters}
use Rattle.sheet.specs.Forms.{entry_of, written, is_name, is_kind, is_meant, is_form}
use Rattle.sheet.specs.Lines.{judged, sheet_check}
use Rattle.sheet.specs.Inputs.{inputs_of}
use Rattle.sheet.specs.Replies.{reply}
use Rattle.refusals.specs.declared.Refusal.TheVariants.{SheetNoForm}
use Rattle.lookup.specs.Search.{place_of}
use Rattle.progressive.specs.Progressive.{regular, lemma_of, is_shaped, progressive_of}
use Rattle.progressive.specs.Answers.{answer_of}

pub record Case : Type 0 where
  pub word : List ℕ
  pub sheet : List ℕ

-- खाइरहेको, नखाइरहेको and गरिरहेको
pub khairaheko : List ℕ
khairaheko =
    0xE0 ∷ 0xA4 ∷ 0x96 ∷ 0xE0 ∷ 0xA4 ∷ 0xBE ∷ 0xE0 ∷ 0xA4 ∷ 0x87 ∷ 0xE0 ∷ 0xA4 ∷ 0xB0 ∷ 0xE0 ∷ 0xA4 ∷ 0xB9 ∷ 0xE0 ∷ 0xA5 ∷ 0x87 ∷
    0xE0 ∷ 0xA4 ∷ 0x95 ∷ 0xE0 ∷ 0xA5 ∷ 0x8B ∷ []

pub nakhairaheko : List ℕ
nakhairaheko =
    0xE0 ∷ 0xA4 ∷ 0xA8 ∷ 0xE0 ∷ 0xA4 ∷ 0x96 ∷ 0xE0 ∷ 0xA4 ∷ 0xBE ∷ 0xE0 ∷ 0xA4 ∷ 0x87 ∷ 0xE0 ∷ 0xA4 ∷ 0xB0 ∷ 0xE0 ∷ 0xA4 ∷ 0xB9 ∷
    0xE0 ∷ 0xA5 ∷ 0x87 ∷ 0xE0 ∷ 0xA4 ∷ 0x95 ∷ 0xE0 ∷ 0xA5 ∷ 0x8B ∷ []

pub gariraheko : List ℕ
gariraheko =
    0xE0 ∷ 0xA4 ∷ 0x97 ∷ 0xE0 ∷ 0xA4 ∷ 0xB0 ∷ 0xE0 ∷ 0xA4 ∷ 0xBF ∷ 0xE0 ∷ 0xA4 ∷ 0xB0 ∷ 0xE0 ∷ 0xA4 ∷ 0xB9 ∷ 0xE0 ∷ 0xA5 ∷ 0x87 ∷
    0xE0 ∷ 0xA4 ∷ 0x95 ∷ 0xE0 ∷ 0xA5 ∷ 0x8B ∷ []

-- खानु (hv) and रहनु (hv)
pub khanu : List ℕ
khanu =
    0x28 ∷ 0x77 ∷ 0x20 ∷ 0xE0 ∷ 0xA4 ∷ 0x96 ∷ 0xE0 ∷ 0xA4 ∷ 0xBE ∷ 0xE0 ∷ 0xA4 ∷ 0xA8 ∷ 0xE0 ∷ 0xA5 ∷ 0x81 ∷ 0x20 ∷ 0x28 ∷ 0x68 ∷
    0x76 ∷ 0x29 ∷ 0x29 ∷ 0x0A ∷ 0x28 ∷ 0x77 ∷ 0x20 ∷ 0xE0 ∷ 0xA4 ∷ 0xB0 ∷ 0xE0 ∷ 0xA4 ∷ 0xB9 ∷ 0xE0 ∷ 0xA4 ∷ 0xA8 ∷ 0xE0 ∷ 0xA5 ∷
    0x81 ∷ 0x20 ∷ 0x28 ∷ 0x68 ∷ 0x76 ∷ 0x29 ∷ 0x29 ∷ 0x0A ∷ []

-- the link of गरि to गर्नु, with गरनु (hv) and रहनु (hv)
pub linked : List ℕ
linked =
    0x28 ∷ 0x6C ∷ 0x20 ∷ 0xE0 ∷ 0xA4 ∷ 0x97 ∷ 0xE0 ∷ 0xA4 ∷ 0xB0 ∷ 0xE0 ∷ 0xA4 ∷ 0xBF ∷ 0x20 ∷ 0x28 ∷ 0xE0 ∷ 0xA4 ∷ 0x97 ∷ 0xE0 ∷
    0xA4 ∷ 0xB0 ∷ 0xE0 ∷ 0xA5 ∷ 0x8D ∷ 0xE0 ∷ 0xA4 ∷ 0xA8 ∷ 0xE0 ∷ 0xA5 ∷ 0x81 ∷ 0x29 ∷ 0x29 ∷ 0x0A ∷ 0x28 ∷ 0x77 ∷ 0x20 ∷ 0xE0 ∷
    0xA4 ∷ 0x97 ∷ 0xE0 ∷ 0xA4 ∷ 0xB0 ∷ 0xE0 ∷ 0xA4 ∷ 0xA8 ∷ 0xE0 ∷ 0xA5 ∷ 0x81 ∷ 0x20 ∷ 0x28 ∷ 0x68 ∷ 0x76 ∷ 0x29 ∷ 0x29 ∷ 0x0A ∷
    0x28 ∷ 0x77 ∷ 0x20 ∷ 0xE0 ∷ 0xA4 ∷ 0xB0 ∷ 0xE0 ∷ 0xA4 ∷ 0xB9 ∷ 0xE0 ∷ 0xA4 ∷ 0xA8 ∷ 0xE0 ∷ 0xA5 ∷ 0x81 ∷ 0x20 ∷ 0x28 ∷ 0x68 ∷
    0x76 ∷ 0x29 ∷ 0x29 ∷ 0x0A ∷ []

pub inputs : List Case
inputs =
    record { word = khairaheko; sheet = khanu } ∷
    record { word = nakhairaheko; sheet = khanu } ∷
    record { word = gariraheko; sheet = linked } ∷
    record { word = []; sheet = 0x28 ∷ [] } ∷
    []

-- the lemma खानु, without and with न; no progressive form, since the link decides alone; an empty word with a faulty sheet
pub outcomes : List (Result (Option Progressive) Refusal)
outcomes =
    Ok (Some (record { main_end = 9; negative = false; lemma_at = 3; lemma_len = 12 })) ∷
    Ok (Some (record { main_end = 12; negative = true; lemma_at = 3; lemma_len = 12 })) ∷
    Ok None ∷
    Err (SheetNoForm 0) ∷
    []

pub cases : map (λ (c : Case). answer_of c.word c.sheet) inputs ≡ outcomes
unfolding khairaheko nakhairaheko gariraheko khanu linked inputs outcomes is_utf8 run after opened utf8_char within forbidden name_run holds_forbidden word_check tag_of letters_of well_kept is_letters entry_of written is_name is_kind is_meant is_form judged sheet_check reply place_of regular lemma_of is_shaped progressive_of inputs_of answer_of
cases = refl
