-- `part::Torn::put_kept` meets its contract: the kept sheet is no longer than the sheet. Assumes nothing.
use native.Mathlib.Omega.{arith}
use Rattle.writing.proofs.Wholes.{front}
use Rattle.rescued.proofs.Promises.{kept-size}
use Rattle.rescued.proofs.part.Torn.put_kept.Goals as goal

pub returns : goal.returns
returns c = front c.put_both.ensures.0 (omega (arith, c.args.self.now.short, kept-size c.args.self.now.sheet.now)) (omega arith)
