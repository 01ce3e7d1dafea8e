-- `exports::references::yunthirel_findings` meets its contract: the answer of `find_references`, coded. Assumes nothing.
use mathlib.Core.Path.{ap, ◌∙◌}
use Rattle.exports.specs.Codes.{written_code}
use Rattle.exports.proofs.Reported.{found_small}
use Rattle.exports.proofs.references.yunthirel_findings.Goals as goal

pub written_code-requires : goal.written_code-requires
written_code-requires c = found_small _ _ _ c.find_references.ensures.0

pub returns : goal.returns
returns c = (c.written_code.ensures ∙ ap written_code c.find_references.ensures.0, c.find_references.ensures.1)
