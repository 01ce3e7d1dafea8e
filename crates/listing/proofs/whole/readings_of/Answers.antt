-- `whole::readings_of` meets its contract: the buffer has room for the longest list. Assumes nothing.
use native.Mathlib.Omega.{arith}
use Rattle.listing.specs.Printed.{readings_text}
use Rattle.writing.proofs.Wholes.{written}
use Rattle.listing.proofs.whole.readings_of.Goals as goal

pub returns : goal.returns
returns c =
    let a = c.args in
    rw c.unwrap_or.ensures (written (readings_text a.word.now a.sheet.now) a.out.now _ _ (omega (arith, c.print_readings.ensures.1)) c.print_readings.ensures.0)
