-- `exports::edits::yunthirel_withdraw_line` meets its contract: the answer of `withdraw_line`, coded. Assumes nothing.
use mathlib.Core.Path.{ap, ◌∙◌}
use Rattle.exports.specs.Codes.{written_code}
use Rattle.exports.proofs.Edited.{withdraw_small}
use Rattle.exports.proofs.edits.yunthirel_withdraw_line.Goals as goal

pub written_code-requires : goal.written_code-requires
written_code-requires c = withdraw_small _ _ _ _ c.withdraw_line.ensures.0

pub returns : goal.returns
returns c = (c.written_code.ensures ∙ ap written_code c.withdraw_line.ensures.0, c.withdraw_line.ensures.1)
