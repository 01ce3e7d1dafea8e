-- `exports::yunthirel_check_word` meets its contract, answer by answer. Assumes nothing.
use mathlib.Core.Path.{sym, ap, ◌∙◌}
use Rattle.exports.specs.Codes.{refusal_code, word_code}
use Rattle.exports.proofs.Surfaces.{word-placed}
use Rattle.exports.proofs.yunthirel_check_word.Goals as goal

pub refusal_code-requires : goal.refusal_code-requires
refusal_code-requires c = rw c.from.ensures (word-placed c.in-Err.fault)

pub returns-in-Ok : goal.returns-in-Ok
returns-in-Ok c = ap word_code (sym c.in-Ok.is ∙ c.check_word.ensures)

pub returns-in-Err : goal.returns-in-Err
returns-in-Err c = c.refusal_code.ensures ∙ ap refusal_code c.from.ensures ∙ ap word_code (sym c.in-Err.is ∙ c.check_word.ensures)
