-- `entry::told_in` meets its contract: both lists have room for the lines of an accepted sheet. Assumes nothing.
use Rattle.std.proofs.Common.{arith, ap, length}
use Rattle.lookup.proofs.Count.{few-lines}
use Rattle.referred.proofs.entry.told_in.Goals as goal

pub told-requires-2-clause-room : goal.told-requires-2-clause-room
told-requires-2-clause-room g c =
    let x = c.args.sheet.now.indexed in
    omega (arith, ap length x.listed, few-lines c.args.sheet.now.bytes.now x.accepted)
