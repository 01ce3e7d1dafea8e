-- `exports::yunthirel_progressive` meets its contract: the places of a refusal and of a form are small enough for their bits. Assumes nothing.
use mathlib.Core.Path.{sym, ap, ◌∙◌}
use Rattle.std.specs.Prelude.{Ok}
use Rattle.exports.specs.Codes.{progressive_code}
use Rattle.exports.proofs.Bounds.{analyzed_small, form_small}
use Rattle.exports.proofs.yunthirel_progressive.Goals as goal

pub refusal_code-requires : goal.refusal_code-requires
refusal_code-requires c =
    let a = c.args in
    analyzed_small a.word.now a.sheet.now _ _ c.analyze_progressive.ensures c.in-Err.is

pub form_code-requires : goal.form_code-requires
form_code-requires c =
    let a = c.args in
    form_small a.word.now a.sheet.now _ _ c.analyze_progressive.ensures (c.in-Ok-Some.is ∙ ap Ok c.in-Ok-Some.field-0-is)

pub returns-in-Err : goal.returns-in-Err
returns-in-Err c =
    c.refusal_code.ensures ∙ ap progressive_code (sym c.in-Err.is ∙ c.analyze_progressive.ensures.settled)
