-- `place::find_line` meets its contract: the used length lies inside the buffer, and the sheet is asked where it is accepted.
-- Assumes nothing.
use Rattle.std.proofs.Common.{rules}
use Rattle.std.proofs.lemmas.Result.{err_from_is_err_and}
use Rattle.std.specs.Prelude.{Result}
use mathlib.Core.Path.{sym, ap, subst, ◌∙◌}
use lib.ListN.{take}
use Rattle.refusals.specs.declared.Refusal.{Refusal}
use Rattle.sheet.specs.declared.check.SheetFault.{SheetFault}
use lib.Seq.{length-take-le}
use Rattle.sheet.specs.Inputs.{by_sheet, or_else}
use Rattle.corrected.specs.Answers.{of_line}
use Rattle.corrected.specs.Spans.{Opens}
use Rattle.corrected.proofs.Answered.{beyond, within}
use Rattle.corrected.proofs.place.find_line.Goals as goal

pub returns-then-buf-used : goal.returns-then-buf-used
returns-then-buf-used c = let a = c.args in beyond a.buf.now a.used a.line.now c.if-buf-used.true

pub slice_bounds-with_lexicon-end : goal.slice_bounds-with_lexicon-end
slice_bounds-with_lexicon-end c = sym (length-take-le _ _ c.if-buf-used.false)

pub returns-in_err-with_lexicon : goal.returns-in_err-with_lexicon
returns-in_err-with_lexicon c =
    let a = c.args in
    let p = err_from_is_err_and c.from_residual.result c.from_residual.ensures.1 in
    let k = within a.buf.now a.used a.line.now c.if-buf-used.false ∙ ap (λ (x : Result (Unit {0}) SheetFault). or_else (by_sheet x) (of_line a.line.now)) c.in_err-with_lexicon.ensures in
    rw (p.1, p.2) k

pub returns : goal.returns
returns c =
    let a = c.args in
    let e = c.in_ok-with_lexicon.ensures in
    let h = e.given in
    let r = c.in_ok-with_lexicon.field-0 in
    let m : Opens (of_line a.line.now) e.lexicon.now.bytes.now a.line.now r = search rules in
    let k = within a.buf.now a.used a.line.now c.if-buf-used.false ∙ ap (λ (x : Result (Unit {0}) SheetFault). or_else (by_sheet x) (of_line a.line.now)) e.accepted in
    subst (λ (i : Result (Unit {0}) Refusal). Opens i (take a.used a.buf.now) a.line.now r) (sym k) (rw e.of_sheet at m)
