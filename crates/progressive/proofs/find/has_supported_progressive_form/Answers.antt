-- `find::has_supported_progressive_form` meets its contract: a form is found where there is one. Assumes nothing.
use mathlib.Core.Path.{◌∙◌}
use Rattle.progressive.proofs.Forms.{found-form}
use Rattle.progressive.proofs.find.has_supported_progressive_form.Goals as goal

pub returns : goal.returns
returns c =
    let a = c.args in
    c.is_some.ensures ∙ found-form a.sheet.now.bytes.now a.piece.now _ c.find_progressive.ensures
