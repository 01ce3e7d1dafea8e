-- `parts::yunthirel_decompose` meets its contract. Assumes nothing.
use mathlib.Core.Path.{refl, sym, ◌∙◌}
use Rattle.sheet.proofs.Refusals.{refused-placed}
use Rattle.exports.proofs.Put.{answer_refused, decompose_is, both}
use Rattle.exports.proofs.parts.yunthirel_decompose.Goals as goal

pub refusal_code-requires : goal.refusal_code-requires
refusal_code-requires c =
    let a = c.args in
    refused-placed a.word.now a.sheet.now _ (answer_refused a.word.now a.sheet.now _ (sym c.in-Err.is ∙ c.decompose.ensures))

pub returns-in-Err : goal.returns-in-Err
returns-in-Err c =
    let a = c.args in
    both (decompose_is a.word.now a.sheet.now a.out.now _ (sym c.in-Err.is ∙ c.decompose.ensures)) (c.refusal_code.ensures, refl)

pub returns-in-Ok : goal.returns-in-Ok
returns-in-Ok c =
    let a = c.args in
    both (decompose_is a.word.now a.sheet.now a.out.now _ (sym c.in-Ok.is ∙ c.decompose.ensures)) c.put_morpheme.ensures
