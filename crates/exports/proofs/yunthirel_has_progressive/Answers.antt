-- `exports::yunthirel_has_progressive` meets its contract: the place of a refusal is small enough. Assumes nothing.
use mathlib.Core.Path.{ap, ◌∙◌}
use Rattle.exports.specs.Codes.{yes_code}
use Rattle.exports.proofs.Bounds.{supported-told}
use Rattle.exports.proofs.yunthirel_has_progressive.Goals as goal

pub yes_code-requires : goal.yes_code-requires
yes_code-requires c = supported-told c.args.word.now c.args.sheet.now _ c.has_supported_progressive_form.ensures

pub returns : goal.returns
returns c = c.yes_code.ensures ∙ ap yes_code c.has_supported_progressive_form.ensures
