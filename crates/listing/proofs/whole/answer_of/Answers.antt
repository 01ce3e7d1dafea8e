-- `whole::answer_of` meets its contract: the buffer has room for the longest list. Assumes nothing.
use native.Mathlib.Omega.{arith}
use Rattle.listing.specs.Printed.{printed}
use Rattle.writing.proofs.Wholes.{written}
use Rattle.listing.proofs.whole.answer_of.Goals as goal

pub returns : goal.returns
returns c =
    let a = c.args in
    rw c.unwrap_or.ensures (written (printed a.input.now) a.out.now _ _ (omega (arith, c.print_answer.ensures.1)) c.print_answer.ensures.0)
