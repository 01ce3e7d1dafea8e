-- `tokenizer::walk::end_run` meets its contract: a held run is stored where there is room. Assumes nothing.
use Rattle.std.proofs.Common.{arith}
use Rattle.tokenizer.proofs.Turns.{ended_full, ended_room}
use Rattle.tokenizer.proofs.walk.end_run.Goals.{then-i-list, else-i-list}
use Rattle.tokenizer.proofs.walk.end_run.Goals as goal

pub returns : goal.returns
returns c =
    let held = c.if-not-held.false in
    elim c.if-i-list.branch [
      | then-i-list w ↦ rw w.list-is (ended_room _ _ _ _ _ held (omega arith))
      | else-i-list w ↦ rw w.list-is (ended_full _ _ _ _ _ held (omega arith))
    ]
