-- `tokens::lines::answer_of` meets its contract: the buffer has room for the longest list. Assumes nothing.
use Rattle.std.proofs.Common.{arith, sym, ◌∙◌}
use Rattle.writing.proofs.Wholes.{front_as}
use Rattle.tokenizer.proofs.Promises.{all_listed}
use Rattle.tokens.proofs.Rows.{printed_list, printed_refused, printed-size}
use Rattle.tokens.proofs.lines.answer_of.Goals as goal

pub overflow_mul-list : goal.overflow_mul-list
overflow_mul-list c = let h = (all_listed _ _ _ (sym c.tokenize.ensures.0 ∙ c.in-Ok.is)).1 in omega arith

pub shared_ref_as_front-list : goal.shared_ref_as_front-list
shared_ref_as_front-list c = let h = (all_listed _ _ _ (sym c.tokenize.ensures.0 ∙ c.in-Ok.is)).1 in omega arith

pub returns-in-Ok : goal.returns-in-Ok
returns-in-Ok c =
    let t = c.tokenize.ensures in
    (front_as (printed_list _ _ _ _ c.told-list (sym c.in-Ok.is ∙ t.0) t.1) c.put_front.ensures (omega (arith, printed-size c.args.text.now)) (omega arith), t.1)

pub returns-in-Err : goal.returns-in-Err
returns-in-Err c =
    let t = c.tokenize.ensures in
    (front_as (printed_refused _ _ _ c.told-list (sym c.in-Err.is ∙ t.0)) c.put_front-in-Err.ensures (omega (arith, printed-size c.args.text.now)) (omega arith), t.1)
