-- `exports::visits::yunthirel_visits` meets its contract: the number and the place of a refusal are small enough. Assumes nothing.
use mathlib.Core.Path.{ap, ◌∙◌}
use Rattle.exports.specs.Codes.{visits_code}
use Rattle.exports.proofs.Bounds.{visits_told}
use Rattle.exports.proofs.visits.yunthirel_visits.Goals as goal

pub written_code-requires : goal.written_code-requires
written_code-requires c = visits_told c.args.word.now c.args.sheet.now _ c.visits_of.ensures

pub returns : goal.returns
returns c = c.written_code.ensures ∙ ap visits_code c.visits_of.ensures
