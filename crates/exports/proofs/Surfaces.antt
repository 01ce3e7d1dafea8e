-- Laws of the word put back together from a row: what the word's check gives, how long the text is, and that every row of the word's list
-- gives the word. Assumes nothing.
use Rattle.std.specs.Prelude.{Err, Ok, Result}
use Prim.Native.Nat.{ℕ, zero, suc, ◌*◌, ◌≤◌, ◌<◌}
use native.Mathlib.Nat.{not-suc-le-zero, le_of_suc-le-suc}
use native.Mathlib.Omega.{arith}
use mathlib.Core.Path.{◌≡◌, refl, sym, ap, subst, ◌∙◌}
use mathlib.Core.Bool.{Bool, true, false}
use mathlib.Core.List.{List, [], ◌∷◌, ◌++◌}
use lib.ListN.{length, drop, get_or, replicate, length-append, length-drop}
use lib.Dec.{leb}
use borrow.Author.Tests.{lt-ltb, le-ltb}
use Rattle.runs.specs.Runs.{pick}
use Rattle.refusals.specs.declared.Refusal.{Refusal}
use Rattle.refusals.specs.declared.Refusal.TheVariants.{OutputTooShort}
use Rattle.text.specs.Word.{word_limit, word_check, refusal_of}
use Rattle.text.specs.declared.word.WordFault.{WordFault}
use Rattle.text.specs.declared.word.WordFault.TheVariants as words
use Rattle.sheet.specs.Inputs.{of_word, Placed}
use Rattle.ranking.specs.Stored.{reading_width, reading_at}
use Rattle.sheet.specs.Limits.{sheet_limit}
use Rattle.sheet.specs.Lines.{sheet_check}
use Rattle.sheet.specs.Lines as sheets
use Rattle.sheet.specs.declared.check.SheetFault.{SheetFault}
use Rattle.sheet.specs.declared.check.SheetFault.TheVariants as faults
use Rattle.sheet.proofs.Faults.{Inside, fault-inside}
use Rattle.ranking.specs.Past.{no_row}
use Rattle.ranking.specs.declared.Classified.{Classified}
use Rattle.analysis.specs.Answers.{said_of, rows_given}
use Rattle.analysis.proofs.Promises.{all_recomposed}
use Rattle.paths.specs.Recomposed.{surface_text, Recomposed, All}
use Rattle.paths.proofs.Promises.{joined}
use Rattle.writing.specs.Placed.{written_of}
use Rattle.listing.specs.Texts.{listing_room}
use Rattle.listing.proofs.Room.{surface_size}
use Rattle.exports.specs.Codes.{Small}
use Rattle.exports.specs.Rows.{row_bytes, row_width, each, rows_filled, readings_if, readings_filled}
use Rattle.exports.proofs.Put.{both}
use Rattle.exports.proofs.Widths.{each-length, rows_long}
use Rattle.exports.proofs.Readable.{readings_read}
use Rattle.exports.specs.Surface.{reading_in, surface_if, surface_filled}

-- what the check of a word says alone
module _ (w : List ℕ) where
  pub word_fault : (f : WordFault) → word_check w ≡ Err f → Err (refusal_of f) ≡ of_word (word_check w)
  word_fault f e = sym (ap of_word e)

  pub word_fine : word_check w ≡ Ok tt → Ok tt ≡ of_word (word_check w)
  word_fine e = sym (ap of_word e)

-- no refusal of a word has a place
pub word-placed : (f : WordFault) → Placed (refusal_of f)
word-placed words.TooLong = tt
word-placed words.NotUtf8 = tt
word-placed words.Forbidden = tt

-- a faulty line begins inside the sheet
pub sheet-placed : (s : List ℕ) (f : SheetFault) → sheet_check s ≡ Err f → Placed (sheets.refusal_of f)
sheet-placed s f e = by f (subst (Inside sheet_limit) e (fault-inside s))
  where
    by : (g : SheetFault) → Inside sheet_limit (Err g) → Placed (sheets.refusal_of g)
    by faults.TooLong i = tt
    by (faults.NoForm at) i = (i, tt)
    by (faults.NotAbove at) i = (i, tt)

-- a row that is long enough, and one that is not
pub row_long : (row : List ℕ) → reading_width ≤ length row → reading_at row ≡ reading_in row
row_long row h = ap (λ (b : Bool). reading_at (pick b (replicate reading_width 0) row)) (sym (le-ltb (length row) reading_width h))

pub row-short : (row : List ℕ) → length row < reading_width → reading_at (replicate reading_width 0) ≡ reading_in row
row-short row h = ap (λ (b : Bool). reading_at (pick b (replicate reading_width 0) row)) (sym (lt-ltb (length row) reading_width h))

-- the text fits the code
pub surface_small : (w row out : List ℕ) (y : Result ℕ Refusal) → length w ≤ word_limit → y ≡ written_of (surface_text w (reading_in row)) out → Small y
surface_small w row out y h e = subst Small (sym e) (by (leb (length text) (length out)) (surface_size w (reading_in row) h refl refl))
  where
    text : List ℕ
    text = surface_text w (reading_in row)

    by : (b : Bool) → length text ≤ listing_room → Small (pick b (Ok (length text)) (Err OutputTooShort))
    by true n = omega arith
    by false n = tt

-- what is done, by what is said of the word
pub surface_is : (w row out : List ℕ) (x : Result (Unit {0}) Refusal) → x ≡ of_word (word_check w) → surface_if x (surface_text w (reading_in row)) out ≡ surface_filled w row out
unfolding surface_filled
surface_is w row out x e = ap (λ (i : Result (Unit {0}) Refusal). surface_if i (surface_text w (reading_in row)) out) e

-- every element, by its place
all_at : {A : Type 0} (P : A → Type 0) (xs : List A) (i : ℕ) (d : A) → All P xs → i < length xs → P (get_or xs i d)
all_at P [] i d h l = absurd (not-suc-le-zero l)
all_at P (x ∷ xs) zero d h l = h.0
all_at P (x ∷ xs) (suc i) d h l = all_at P xs i d h.1 (le_of_suc-le-suc l)

-- each row that `yunthirel_readings` stores for a word gives the word
module _ (w s out : List ℕ) (aw : word_check w ≡ Ok tt) (ah : sheet_check s ≡ Ok tt) (given : said_of w s ≡ Ok tt)
    (room : row_width * length (rows_given w s) ≤ length out) (i : ℕ) (inside : i < length (rows_given w s)) where
  abbrev stored : List ℕ
  stored = drop (row_width * i) (readings_filled w s out).buffer

  stored_long : reading_width ≤ length stored
  unfolding readings_filled
  stored_long =
      let f : rows_filled row_width row_bytes (rows_given w s) out ≡ readings_if (said_of w s) (rows_given w s) out = ap (λ (x : Result (Unit {0}) Refusal). readings_if x (rows_given w s) out) (sym given) in
      let b : each row_bytes (rows_given w s) ++ drop (row_width * length (rows_given w s)) out ≡ (readings_if (said_of w s) (rows_given w s) out).buffer =
      (both f (rows_long row_bytes row_width (length (rows_given w s)) (rows_given w s) out refl _ room refl)).1 in
      let m = ap (length {A = ℕ}) (sym b) ∙ length-append (each row_bytes (rows_given w s)) (drop (row_width * length (rows_given w s)) out) in
      let e = each-length row_bytes row_width (λ r. refl) (rows_given w s) in
      let d = length-drop (row_width * i) (readings_if (said_of w s) (rows_given w s) out).buffer in
      omega arith

  pub stored-joined : surface_text w (reading_in stored) ≡ w
  stored-joined =
      let read = readings_read w s out given room i inside in
      ap (surface_text w) (sym (row_long stored stored_long) ∙ ap (λ (r : Classified). r.reading) read)
      ∙ joined w (get_or (rows_given w s) i no_row).reading
      (all_at (λ (r : Classified). Recomposed w r.reading) (rows_given w s) i no_row (all_recomposed w s aw ah given) inside)
