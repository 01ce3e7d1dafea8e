-- `write_whole` meets its contract: the first run tells the length, the second writes. Assumes nothing.
use Rattle.std.proofs.Common.{arith}
use Rattle.writing.proofs.Wholes.{written_whole}
use Rattle.writing.proofs.write_whole.Goals as goal

pub returns : goal.returns
returns g c = written_whole c.put_front-n.ensures c.if-out-n.false (omega arith) c.put_front.ensures
