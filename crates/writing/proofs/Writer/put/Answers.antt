-- `put` meets its contract, by how much of the text there is room for. Assumes nothing.
use Rattle.std.proofs.Common.{arith}
use Rattle.writing.proofs.Puts.{put_all, put_front_of, put_none_of}
use Rattle.writing.proofs.Writer.put.Goals as goal
use Rattle.writing.proofs.Writer.put.Goals.{then-end-self, else-end-self+then-self, else-end-self+else-self}

pub returns : goal.returns
returns c =
    let e = c.saturating_add-end.ensures in
    elim c.if-end-self.branch [
      | then-end-self w ↦ rw w.self-is (put_all _ _ c.args.self.now _ (omega arith) (omega arith) e w.if-end-self.true w.copy_from_slice.ensures.after)
      | else-end-self+then-self w ↦ rw w.self-is (put_front_of _ _ c.args.self.now _ (omega arith) (omega arith) e w.if-self.true w.if-end-self.false w.copy_from_slice-then-self.ensures.after)
      | else-end-self+else-self w ↦ rw w.self-is (put_none_of c.args.text.now c.args.text.now c.args.self.now _ (omega arith) (omega arith) e w.if-self.false)
    ]
