-- The new length of an edited sheet, and the place of a faulty line: both fit their bits of a code. The proofs of edits.rt cite these.
-- Assumes nothing.
use Rattle.std.specs.Prelude.{Err, Ok, Result}
use Rattle.refusals.specs.declared.Refusal.{Refusal}
use Prim.Native.Nat.{ℕ}
use native.Mathlib.Omega.{arith}
use mathlib.Core.Path.{◌≡◌, sym, subst}
use mathlib.Core.Bool.{Bool, true, false, ◌&&◌}
use mathlib.Core.List.{List}
use lib.ListN.{length, take}
use lib.Seq.{length-take-le}
use lib.Dec.{leb, ltb}
use Rattle.runs.specs.Runs.{pick}
use Rattle.refusals.specs.declared.Refusal.TheVariants.{SheetTooLong, NoSingleForm, NoRoom}
use Rattle.sheet.specs.Limits.{sheet_limit}
use Rattle.sheet.specs.Forms.{entry_of, key}
use Rattle.sheet.specs.Inputs.{by_sheet, or_else, Placed}
use Rattle.sheet.specs.Lines.{lines_of, sheet_check}
use Rattle.sheet.specs.Replies.{Reply, unknown, told, reply_in}
use Rattle.sheet.specs.declared.check.SheetFault.{SheetFault}
use Rattle.sheet.specs.declared.check.SheetFault.TheVariants as sheets
use Rattle.sheet.proofs.Accepted.{accepted-short}
use Rattle.sheet.proofs.Faults.{Inside, fault-inside}
use Rattle.corrected.specs.Sets.{is_single, put_text, withdrawn_text}
use Rattle.corrected.specs.Answers.{opening_of, answered_by, fitting, withdrawing, put_of, withdraw_of}
use Rattle.corrected.proofs.Buffers.{put-size, withdrawn-size, withdrawn-opened}
use Rattle.exports.specs.Codes.{Small}

module _ (buf : List ℕ) (used : ℕ) (line : List ℕ) where
  -- the place of a refusal
  abbrev PlacedBy : Result ℕ Refusal → Type 0
  PlacedBy (Ok n) = Unit {0}
  PlacedBy (Err r) = Placed r

  opening_placed : (w : Result ℕ Refusal) → PlacedBy w → PlacedBy (answered_by (opening_of buf used line) w)
  unfolding opening_of
  opening_placed w p = by (ltb (length buf) used) (sheet_check (take used buf)) (is_single line) (fault-inside (take used buf))
    where
      by : (a : Bool) (y : Result (Unit {0}) SheetFault) (c : Bool) → Inside sheet_limit y → PlacedBy (answered_by (pick a (Err SheetTooLong) (or_else (by_sheet y) (pick c (Ok tt) (Err NoSingleForm)))) w)
      by true y c i = tt
      by false (Ok _) true i = p
      by false (Ok _) false i = tt
      by false (Err sheets.TooLong) c i = tt
      by false (Err (sheets.NoForm at)) c i = (i, tt)
      by false (Err (sheets.NotAbove at)) c i = (i, tt)

  put-placed : PlacedBy (put_of buf used line)
  unfolding put_of
  put-placed = opening_placed (fitting (length (put_text (take used buf) line)) (length buf)) (by (leb (length (put_text (take used buf) line)) (length buf) && leb (length (put_text (take used buf) line)) sheet_limit))
    where
      by : (b : Bool) → PlacedBy (pick b (Ok (length (put_text (take used buf) line))) (Err NoRoom))
      by true = tt
      by false = tt

  withdraw_placed : PlacedBy (withdraw_of buf used line)
  unfolding withdraw_of
  withdraw_placed = opening_placed (withdrawing (reply_in (lines_of (take used buf)) (key (entry_of line))) (length (withdrawn_text (take used buf) line))) (by (reply_in (lines_of (take used buf)) (key (entry_of line))))
    where
      by : (x : Reply) → PlacedBy (withdrawing x (length (withdrawn_text (take used buf) line)))
      by unknown = tt
      by (told v) = tt

  pub put_small : (w : Result ℕ Refusal) → w ≡ put_of buf used line → Small w
  put_small (Ok n) e = let s = put-size buf used line n (sym e) in omega (arith, s.2)
  put_small (Err r) e = subst PlacedBy (sym e) put-placed

  pub withdraw_small : (w : Result ℕ Refusal) → w ≡ withdraw_of buf used line → Small w
  withdraw_small (Ok n) e =
      let s = withdrawn-size buf used line n (sym e) in
      let o = withdrawn-opened buf used line n (sym e) in
      omega (arith, s.1, accepted-short (take used buf) o.1, length-take-le used buf o.0)
  withdraw_small (Err r) e = subst PlacedBy (sym e) withdraw_placed
