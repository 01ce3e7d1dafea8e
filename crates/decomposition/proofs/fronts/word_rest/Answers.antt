-- `fronts::word_rest` meets its contract. Assumes nothing.
use mathlib.Core.Path.{sym, ◌∙◌}
use Rattle.sheet.specs.Replies.{reply}
use Rattle.strips.proofs.Remainders.{rest-inside}
use Rattle.decomposition.proofs.Leading.{rest-none, rest_told}
use Rattle.decomposition.proofs.fronts.word_rest.Goals as goal

pub slice_bounds-is_word-count : goal.slice_bounds-is_word-count
slice_bounds-is_word-count c = rest-inside c.args.word.now c.args.form.now c.in_ok-n.n (sym c.prefix_rest.ensures ∙ c.in_ok-n.was)

pub slice_bounds-is_word-start : goal.slice_bounds-is_word-start
slice_bounds-is_word-start c = rest-inside c.args.word.now c.args.form.now c.in_ok-n.n (sym c.prefix_rest.ensures ∙ c.in_ok-n.was)

pub returns-in_err-n : goal.returns-in_err-n
returns-in_err-n c =
    let a = c.args in
    rw c.from_residual.ensures (rest-none (reply a.sheet.now.bytes.now) a.word.now a.form.now (sym c.in_err-n.was ∙ c.prefix_rest.ensures))

pub returns : goal.returns
returns c =
    let a = c.args in
    c.then_some.ensures
    ∙ rest_told (reply a.sheet.now.bytes.now) a.word.now a.form.now c.in_ok-n.n (sym c.in_ok-n.was ∙ c.prefix_rest.ensures) c.is_word.result c.is_word.ensures
