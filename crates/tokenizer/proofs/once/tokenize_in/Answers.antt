-- `tokenizer::once::tokenize_in` meets its contract: one pass, whose count decides. Assumes nothing.
use Rattle.std.proofs.Common.{arith, sym, ◌∙◌}
use Rattle.std.proofs.lemmas.Result.{err_from_is_err_and}
use Rattle.tokenizer.proofs.Answered.{pass_told, said_short, said_all}
use Rattle.tokenizer.proofs.once.tokenize_in.Goals as goal

pub returns-in_err-count : goal.returns-in_err-count
returns-in_err-count c =
    let p = err_from_is_err_and c.from_residual.result c.from_residual.ensures.1 in
    let t = pass_told c.args.text.now c.args.list.now _ (sym c.in_err-count.was ∙ c.pass.ensures.value) in
    (rw (p.1, p.2) t, c.pass.ensures.left)

pub returns-then-list-count : goal.returns-then-list-count
returns-then-list-count c =
    let t = pass_told c.args.text.now c.args.list.now _ (sym c.in_ok-count.was ∙ c.pass.ensures.value) in
    (said_short c.args.text.now c.args.list.now t.0 _ t.1 (omega arith), c.pass.ensures.left)

pub returns : goal.returns
returns c =
    let t = pass_told c.args.text.now c.args.list.now _ (sym c.in_ok-count.was ∙ c.pass.ensures.value) in
    (said_all c.args.text.now c.args.list.now t.0 _ t.1 (omega arith), c.pass.ensures.left)
