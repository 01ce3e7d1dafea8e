-- `exports::yunthirel_listing` meets its contract: the answer of `write_readings`, coded. Assumes nothing.
use mathlib.Core.Path.{ap, ◌∙◌}
use Rattle.exports.specs.Codes.{written_code}
use Rattle.exports.proofs.Bounds.{outcome_small}
use Rattle.exports.proofs.yunthirel_listing.Goals as goal

pub written_code-requires : goal.written_code-requires
written_code-requires c =
    let a = c.args in
    outcome_small a.word.now a.sheet.now a.out.now _ c.write_readings.ensures.0 c.write_readings.ensures.2

pub returns : goal.returns
returns c = (c.written_code.ensures ∙ ap written_code c.write_readings.ensures.0, c.write_readings.ensures.1)
