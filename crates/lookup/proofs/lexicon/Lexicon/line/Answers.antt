-- `lexicon::line` meets its contract: a form stands at each stored start. Assumes nothing.
use Rattle.std.proofs.Common.{◌≡◌, true}
use lib.ListN.{drop}
use Rattle.sheet.specs.Forms.{is_form}
use Rattle.lookup.proofs.Settled.{indexed-form}
use Rattle.lookup.proofs.lexicon.Lexicon.line.Goals as goal

pub invariant_of-result : goal.invariant_of-result
invariant_of-result c =
    let l = c.args.self.now in
    let f : is_form (drop c.from-at.result l.bytes.now) ≡ true = rw c.from-at.ensures (indexed-form l.bytes.now l.starts.now c.args.i l.indexed c.requires) in
    record { form = f }
