-- `answers::value_spot` meets its contract: the value stands between its own ends. Assumes nothing.
use Rattle.std.proofs.Common.{arith}
use Rattle.sheet.proofs.Forms.{line-fits}
use Rattle.lookup.proofs.Parts.{value-spot}
use Rattle.lookup.proofs.answers.value_spot.Goals as goal

pub returns : goal.returns
returns c =
    let l = c.args.line.now in
    (value-spot l.sheet.now l.at _ _ c.value_ends-from.ensures.0 c.value_ends-from.ensures.1, omega (arith, c.value_ends-from.ensures.0, c.value_ends-from.ensures.1, line-fits l.sheet.now l.at l.form))
