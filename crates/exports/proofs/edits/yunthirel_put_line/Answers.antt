-- `exports::edits::yunthirel_put_line` meets its contract: the answer of `put_line`, coded. Assumes nothing.
use mathlib.Core.Path.{ap, ◌∙◌}
use Rattle.exports.specs.Codes.{written_code}
use Rattle.exports.proofs.Edited.{put_small}
use Rattle.exports.proofs.edits.yunthirel_put_line.Goals as goal

pub written_code-requires : goal.written_code-requires
written_code-requires c = put_small _ _ _ _ c.put_line.ensures.0

pub returns : goal.returns
returns c = (c.written_code.ensures ∙ ap written_code c.put_line.ensures.0, c.put_line.ensures.1)
