-- Edits worked by hand: a line put before, between and in the place of others, a line withdrawn, each refusal, and every byte of the buffer.
-- Assumes nothing.
use Rattle.std.specs.Prelude.{Err, Ok}
use Prim.Native.Nat.{ℕ}
use mathlib.Core.Path.{◌≡◌, refl}
use mathlib.Core.List.{List, [], ◌∷◌, ◌++◌, map}
use Rattle.refusals.specs.declared.Refusal.TheVariants.{SheetTooLong, SheetNoForm, SheetNotAbove, NoSingleForm, NothingToWithdraw, NoRoom}
use Rattle.text.specs.Utf8.{within, utf8_char, opened, after, run, is_utf8}
use Rattle.text.specs.Names.{forbidden, name_run, holds_forbidden}
use Rattle.sheet.specs.Letters.{tag_of, letters_of, well_kept, is_letters}
use Rattle.sheet.specs.Forms.{entry_of, written, is_name, is_kind, is_meant, is_form}
use Rattle.sheet.specs.Lines.{judged, sheet_check}
use Rattle.corrected.specs.Sets.{is_single, put_text, withdrawn_text}
use Rattle.corrected.specs.Answers.{opening_of, put_of, withdraw_of, put_left, withdraw_left}

-- (w NAME (VALUE)) with a name of one byte; the values w, h and wh
abbrev line : ℕ → List ℕ → List ℕ
line name value = 0x28 ∷ 0x77 ∷ 0x20 ∷ name ∷ 0x20 ∷ 0x28 ∷ value ++ (0x29 ∷ 0x29 ∷ 0x0A ∷ [])

abbrev w : ℕ → List ℕ
w name = line name (0x77 ∷ [])

abbrev h : ℕ → List ℕ
h name = line name (0x68 ∷ [])

abbrev wh : ℕ → List ℕ
wh name = line name (0x77 ∷ 0x68 ∷ [])

-- ten bytes that are no part of the sheet, and the last nine of them
abbrev nine : List ℕ
nine = 2 ∷ 3 ∷ 4 ∷ 5 ∷ 6 ∷ 7 ∷ 8 ∷ 9 ∷ 0 ∷ []

-- the sheet of a and c, and behind it these bytes
abbrev buffer : List ℕ
buffer = w 0x61 ++ (w 0x63 ++ (1 ∷ nine))

-- b before c; a with another value, as long; a with one that is longer; a as it is; a line that has no room
pub put-worked :
    map (put_of buffer 20) (w 0x62 ∷ h 0x61 ∷ wh 0x61 ∷ w 0x61 ∷ wh 0x62 ∷ []) ≡ Ok 30 ∷ Ok 20 ∷ Ok 21 ∷ Ok 20 ∷ Err NoRoom ∷ []
unfolding within utf8_char opened after run is_utf8 forbidden name_run holds_forbidden tag_of letters_of well_kept is_letters entry_of written is_name is_kind is_meant
    is_form judged sheet_check is_single put_text opening_of put_of
put-worked = refl

pub put-leaves :
    map (put_left buffer 20) (w 0x62 ∷ h 0x61 ∷ wh 0x61 ∷ w 0x61 ∷ wh 0x62 ∷ [])
    ≡ (w 0x61 ++ (w 0x62 ++ w 0x63)) ∷ (h 0x61 ++ (w 0x63 ++ (1 ∷ nine))) ∷ (wh 0x61 ++ (w 0x63 ++ nine)) ∷ buffer ∷ buffer ∷ []
unfolding within utf8_char opened after run is_utf8 forbidden name_run holds_forbidden tag_of letters_of well_kept is_letters entry_of written is_name is_kind is_meant
    is_form judged sheet_check is_single put_text opening_of put_of put_left
put-leaves = refl

-- a by another value; c; and b, which is not there
pub withdraw_worked : map (withdraw_of buffer 20) (h 0x61 ∷ w 0x63 ∷ w 0x62 ∷ []) ≡ Ok 10 ∷ Ok 10 ∷ Err NothingToWithdraw ∷ []
unfolding within utf8_char opened after run is_utf8 forbidden name_run holds_forbidden tag_of letters_of well_kept is_letters entry_of written is_name is_kind is_meant
    is_form judged sheet_check is_single withdrawn_text opening_of withdraw_of
withdraw_worked = refl

-- what stood between the new length and the old one stays
pub withdraw_leaves : map (withdraw_left buffer 20) (h 0x61 ∷ w 0x63 ∷ w 0x62 ∷ []) ≡ (w 0x63 ++ (w 0x63 ++ (1 ∷ nine))) ∷ buffer ∷ buffer ∷ []
unfolding within utf8_char opened after run is_utf8 forbidden name_run holds_forbidden tag_of letters_of well_kept is_letters entry_of written is_name is_kind is_meant
    is_form judged sheet_check is_single withdrawn_text opening_of withdraw_of withdraw_left
withdraw_leaves = refl

-- no line; a line without its 0A; two lines; a form and a byte behind it
pub no-single-worked :
    map (put_of buffer 20) ([] ∷ (0x28 ∷ 0x77 ∷ 0x20 ∷ 0x62 ∷ 0x20 ∷ 0x28 ∷ 0x77 ∷ 0x29 ∷ 0x29 ∷ []) ∷ (w 0x62 ++ w 0x64) ∷ (w 0x62 ++ (0x0A ∷ [])) ∷ [])
    ≡ Err NoSingleForm ∷ Err NoSingleForm ∷ Err NoSingleForm ∷ Err NoSingleForm ∷ []
unfolding within utf8_char opened after run is_utf8 forbidden name_run holds_forbidden tag_of letters_of well_kept is_letters entry_of written is_name is_kind is_meant
    is_form judged sheet_check is_single put_text opening_of put_of
no-single-worked = refl

-- a used length a byte beyond the buffer; a sheet cut short; lines out of order; each before what is said of the line
pub opening-worked :
    (put_of buffer 31 [] ≡ Err SheetTooLong) × (put_of buffer 19 [] ≡ Err (SheetNoForm 10)) × (withdraw_of (w 0x63 ++ w 0x61) 20 [] ≡ Err (SheetNotAbove 10))
unfolding within utf8_char opened after run is_utf8 forbidden name_run holds_forbidden tag_of letters_of well_kept is_letters entry_of written is_name is_kind is_meant
    is_form judged sheet_check is_single put_text withdrawn_text opening_of put_of withdraw_of
opening-worked = (refl, refl, refl)
