-- `whole::answer_of` meets its contract: the buffer has room for what is printed. Assumes nothing.
use Rattle.std.proofs.Common.{arith, sym, ◌∙◌}
use Rattle.referred.proofs.Prints.{reported, refused}
use Rattle.referred.proofs.whole.answer_of.Goals as goal

pub returns-in-Ok : goal.returns-in-Ok
returns-in-Ok c =
    let e = c.write_references.ensures in
    reported _ _ (omega arith) _ _ (sym c.in-Ok.is ∙ e.0) e.1

pub returns-in-Err : goal.returns-in-Err
returns-in-Err c =
    let e = c.write_references.ensures in
    refused _ _ (omega arith) _ _ _ _ (sym c.in-Err.is ∙ e.0) e.1 c.put_front.ensures
