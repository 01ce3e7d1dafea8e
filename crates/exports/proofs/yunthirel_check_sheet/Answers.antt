-- `exports::yunthirel_check_sheet` meets its contract, answer by answer: a faulty line begins inside the sheet, so its place fits. Assumes nothing.
use mathlib.Core.Path.{sym, ap, ◌∙◌}
use Rattle.exports.specs.Codes.{refusal_code, sheet_code}
use Rattle.exports.proofs.Surfaces.{sheet-placed}
use Rattle.exports.proofs.yunthirel_check_sheet.Goals as goal

pub refusal_code-requires : goal.refusal_code-requires
refusal_code-requires c = rw c.from.ensures (sheet-placed c.args.sheet.now c.in-Err.fault (sym c.check_sheet.ensures ∙ c.in-Err.is))

pub returns-in-Ok : goal.returns-in-Ok
returns-in-Ok c = ap sheet_code (sym c.in-Ok.is ∙ c.check_sheet.ensures)

pub returns-in-Err : goal.returns-in-Err
returns-in-Err c = c.refusal_code.ensures ∙ ap refusal_code c.from.ensures ∙ ap sheet_code (sym c.in-Err.is ∙ c.check_sheet.ensures)
