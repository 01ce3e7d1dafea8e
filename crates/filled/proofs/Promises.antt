-- What the entry promises, beyond its contract: the number that is given is the lowest that applies, that of the core call or 8, which is
-- never given for 64 elements or more; with any number the slice is left as it was; without one, the readings stand at its front and
-- its old elements behind them; it is as long as before. Assumes nothing.
use Rattle.std.specs.Prelude.{Err, Ok, Result}
use Prim.Native.Nat.{ℕ, ◌≤◌, ◌<◌}
use native.Mathlib.Omega.{arith}
use mathlib.Core.Path.{◌≡◌, refl, sym, ap, ◌∙◌}
use mathlib.Core.Bool.{Bool, true, false}
use mathlib.Core.Logic.{◌↔◌}
use mathlib.Core.List.{List, [], ◌∷◌, ◌++◌}
use lib.Dec.{ltb}
use lib.ListN.{length, drop, get_or}
use Rattle.refusals.specs.Refusals.{number, written_numbers, output_by, cause_if, lowest_numbers_of, or_else}
use Rattle.refusals.specs.declared.Refusal.{Refusal}
use Rattle.refusals.specs.declared.Refusal.TheVariants.{TooManyReadings, OutputTooShort}
use Rattle.refusals.proofs.Lowest.{AtLeast, lead}
use Rattle.refusals.proofs.Outputs.{room_lowest, eight_short, short_eight, none_wrote, left_by_lem, output_length}
use Rattle.sheet.specs.Inputs.{inputs_of, numbers_given}
use Rattle.sheet.specs.Replies.{reply}
use Rattle.sheet.proofs.Refusals.{lowest_then}
use Rattle.ranking.specs.Lists.{list_limit, Rows, rows, over}
use Rattle.ranking.specs.declared.Classified.{Classified}
use Rattle.analysis.specs.Answers.{collected, listed_rows, said_by, rows_by, said_of, rows_given, said_numbers}
use Rattle.analysis.proofs.Promises.{rows_few, said-below}
use Rattle.filled.specs.Filled.{filled_by, filled_of, output_of, too_many, filled_lowest}

module _ (w s : List ℕ) where
  abbrev given : Rows → List Classified
  given c = listed_rows (reply s) w c

  abbrev short : Rows → ℕ → List Refusal
  short c room = cause_if (ltb room (length (given c))) OutputTooShort

  many_least : (c : Rows) (room : ℕ) → AtLeast 7 (too_many c ++ short c room)
  many_least c room = by c (ltb room (length (given c)))
    where
      by : (c : Rows) (b : Bool) → AtLeast 7 (too_many c ++ cause_if b OutputTooShort)
      by (rows rs) true = (omega arith, tt)
      by (rows rs) false = tt
      by over true = (omega arith, (omega arith, tt))
      by over false = (omega arith, tt)

  by_inputs : (i : Result (Unit {0}) Refusal) (c : Rows) (room : ℕ)
      → written_numbers (filled_by (said_by i c) (length (rows_by i (given c))) room) ≡ or_else (numbers_given i) (lowest_numbers_of (too_many c ++ short c room))
  by_inputs (Err r) c room = refl
  by_inputs (Ok _) (rows rs) room = room_lowest (length (given (rows rs))) room
  by_inputs (Ok _) over room = sym (lead true TooManyReadings (short over room) (by (ltb room 0)))
    where
      by : (b : Bool) → AtLeast 7 (cause_if b OutputTooShort)
      by true = (omega arith, tt)
      by false = tt

  -- the number that is given is the lowest that applies
  pub lowest_number : (room : ℕ) → written_numbers (filled_of w s room) ≡ filled_lowest w s room
  unfolding filled_of filled_lowest said_of rows_given
  lowest_number room =
      by_inputs (inputs_of w s) (collected w s) room ∙ sym (lowest_then w s (too_many (collected w s) ++ short (collected w s) room) (many_least (collected w s) room))

abbrev first : List ℕ → ℕ
first l = get_or l 0 0

-- where the core call gives no list, its number is handed on
pub handed_on : (w s : List ℕ) (room : ℕ) → (said_of w s ≡ Ok tt → ⊥) → written_numbers (filled_of w s room) ≡ said_numbers (said_of w s)
unfolding filled_of
handed_on w s room h = by (said_of w s) h
  where
    by : (x : Result (Unit {0}) Refusal) → (x ≡ Ok tt → ⊥) → written_numbers (filled_by x (length (rows_given w s)) room) ≡ said_numbers x
    by (Ok _) h = absurd (h refl)
    by (Err r) h = refl

-- 8 is given exactly where the list is given and the slice is shorter
pub eight_exactly : (w s : List ℕ) (room : ℕ) → (written_numbers (filled_of w s room) ≡ 8 ∷ []) ↔ ((said_of w s ≡ Ok tt) × (room < length (rows_given w s)))
unfolding filled_of
eight_exactly w s room = (
  (λ e. is_eight (said_of w s) (said-below w s) e),
  (λ h.
      ap (λ (x : Result (Unit {0}) Refusal). written_numbers (filled_by x (length (rows_given w s)) room)) h.0 ∙ short_eight (length (rows_given w s)) room h.1),
)
  where
    is_eight : (x : Result (Unit {0}) Refusal) → ((r : Refusal) → x ≡ Err r → number r < 8) → written_numbers (filled_by x (length (rows_given w s)) room) ≡ 8 ∷ []
        → (x ≡ Ok tt) × (room < length (rows_given w s))
    is_eight (Ok _) b e = (refl, eight_short (length (rows_given w s)) room e)
    is_eight (Err r) b e = let z : number r ≡ 8 = ap first e in let k = b r refl in absurd (omega arith)

-- so a slice of 64 elements is always long enough
pub enough : (w s : List ℕ) (room : ℕ) → list_limit ≤ room → written_numbers (filled_of w s room) ≡ 8 ∷ [] → ⊥
enough w s room h e =
    let short : room < length (rows_given w s) = ((eight_exactly w s room).0 e).1 in
    let n = rows_few w s in
    absurd (omega arith)

-- with any number, the slice is left as it was
pub left : (w s : List ℕ) (old : List Classified) (n : ℕ) (ns : List ℕ) → written_numbers (filled_of w s (length old)) ≡ n ∷ ns → output_of w s old ≡ old
unfolding output_of
left w s old n ns e = left_by_lem (filled_of w s (length old)) (rows_given w s) old n ns e

-- without one, so many readings as the list has are written, and the elements past them are left
pub wrote : (w s : List ℕ) (old : List Classified) → written_numbers (filled_of w s (length old)) ≡ []
    → (filled_of w s (length old) ≡ Ok (length (rows_given w s))) × (output_of w s old ≡ rows_given w s ++ drop (length (rows_given w s)) old)
unfolding filled_of output_of
wrote w s old e =
    let f : filled_by (said_of w s) (length (rows_given w s)) (length old) ≡ Ok (length (rows_given w s)) = by (said_of w s) e in
    (f, ap (λ (g : Result ℕ Refusal). output_by g (rows_given w s) old) f)
  where
    by : (x : Result (Unit {0}) Refusal) → written_numbers (filled_by x (length (rows_given w s)) (length old)) ≡ [] → filled_by x (length (rows_given w s)) (length old) ≡ Ok (length (rows_given w s))
    by (Ok _) e = none_wrote (length (rows_given w s)) (length old) e
    by (Err r) e = let z = ap (length {A = ℕ}) e in absurd (omega arith)

-- the slice is as long as before
pub same_length : (w s : List ℕ) (old : List Classified) → length (output_of w s old) ≡ length old
unfolding filled_of output_of
same_length w s old = by (said_of w s)
  where
    by : (x : Result (Unit {0}) Refusal) → length (output_by (filled_by x (length (rows_given w s)) (length old)) (rows_given w s) old) ≡ length old
    by (Ok _) = output_length (rows_given w s) old
    by (Err r) = refl
