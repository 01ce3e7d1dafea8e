-- `tokenizer::tokenize` meets its contract: the first pass counts, and keeps the tokens where they are few; else a second one writes.
-- Assumes nothing.
use Rattle.std.proofs.Common.{arith, sym, ◌∙◌}
use Rattle.std.proofs.lemmas.Result.{err_from_is_err_and}
use Rattle.tokenizer.proofs.Answered.{pass_told, pass_long, refused, short, all, all_copied, walked_back}
use borrow.Author.Tests.{lt-ltb}
use Rattle.tokenizer.proofs.tokenize.Goals as goal

pub returns-then-text-gt65536 : goal.returns-then-text-gt65536
returns-then-text-gt65536 c = refused c.args.text.now c.args.list.now (sym (pass_long c.args.text.now (lt-ltb _ _ c.if-text-gt65536.true)))

pub returns-in_err-count : goal.returns-in_err-count
returns-in_err-count c =
    let p = err_from_is_err_and c.from_residual.result c.from_residual.ensures.1 in
    let r = refused c.args.text.now c.args.list.now (sym c.in_err-count.was ∙ c.pass.ensures.value) in
    (rw (p.1, p.2) r.0, r.1)

pub returns-then-list-count : goal.returns-then-list-count
returns-then-list-count c =
    let t = pass_told c.args.text.now c.args.list.now _ (sym c.in_ok-count.was ∙ c.pass.ensures.value) in
    short _ _ t.0 _ t.1 c.if-list-count.true

pub walk-requires : goal.walk-requires
walk-requires c = (pass_told c.args.text.now c.args.list.now _ (sym c.in_ok-count.was ∙ c.pass.ensures.value)).0

pub returns-then-count-le512 : goal.returns-then-count-le512
returns-then-count-le512 c =
    let t = pass_told c.args.text.now c.args.list.now _ (sym c.in_ok-count.was ∙ c.pass.ensures.value) in
    all_copied _ _ t.0 _ t.1 _ c.if-list-count.false (omega arith) (walked_back c.args.text.now _ t.0 c.pass.ensures.left) c.copy_from_slice.ensures.after

pub returns-else-count-le512 : goal.returns-else-count-le512
returns-else-count-le512 c =
    let t = pass_told c.args.text.now c.args.list.now _ (sym c.in_ok-count.was ∙ c.pass.ensures.value) in
    all _ _ t.0 _ t.1 c.if-list-count.false c.walk.ensures.left
