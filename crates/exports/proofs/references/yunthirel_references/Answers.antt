-- `exports::references::yunthirel_references` meets its contract: the answer of `write_references`, coded. Assumes nothing.
use mathlib.Core.Path.{ap, ◌∙◌}
use Rattle.exports.specs.Codes.{written_code}
use Rattle.exports.proofs.Reported.{report_small}
use Rattle.exports.proofs.references.yunthirel_references.Goals as goal

pub written_code-requires : goal.written_code-requires
written_code-requires c = report_small _ _ _ c.write_references.ensures.0

pub returns : goal.returns
returns c = (c.written_code.ensures ∙ ap written_code c.write_references.ensures.0, c.write_references.ensures.1)
