-- `entry::print_answer` meets its contract: too long an input, or a word and a sheet. Assumes nothing.
use native.Mathlib.Omega.{arith}
use mathlib.Core.Path.{sym}
use lib.Seq.{length-take-le}
use Rattle.listing.proofs.Room.{number-line-size}
use Rattle.listing.proofs.Answered.{answer_as, printed_long, word_end, printed-parts}
use Rattle.listing.proofs.entry.print_answer.Goals as goal

pub returns-then-input-gt-SHEET_BYTES : goal.returns-then-input-gt-SHEET_BYTES
returns-then-input-gt-SHEET_BYTES c =
    answer_as (printed_long _ c.if-input-gt-SHEET_BYTES.true) c.write_refused.ensures (number-line-size 4 (omega arith))

pub slice_bounds-print_readings-end : goal.slice_bounds-print_readings-end
slice_bounds-print_readings-end c = sym (length-take-le c.find-end.result c.args.input.now c.find-end.ensures.1)

pub returns : goal.returns
returns c =
    let a = c.args in
    let i = a.input.now in
    let r = c.print_readings.ensures in
    answer_as (printed-parts i _ _ c.if-input-gt-SHEET_BYTES.false (word_end i _ c.find-end.ensures.0) c.after.ensures) r.0 r.1
