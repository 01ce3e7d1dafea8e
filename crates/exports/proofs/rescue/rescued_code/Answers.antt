-- `exports::rescue::rescued_code` meets its contract, case by case. Assumes nothing.
use mathlib.Core.Path.{sym, ap, subst, ◌∙◌}
use Rattle.exports.specs.Rescue.{Fitting, rescued_code}
use Rattle.exports.proofs.rescue.rescued_code.Goals as goal

pub sizes_code-requires : goal.sizes_code-requires
sizes_code-requires c = subst Fitting c.in-Ok.is c.requires

pub refusal_code-requires : goal.refusal_code-requires
refusal_code-requires c = subst Fitting c.in-Err.is c.requires

pub returns-in-Ok : goal.returns-in-Ok
returns-in-Ok c = c.sizes_code.ensures ∙ ap rescued_code (sym c.in-Ok.is)

pub returns-in-Err : goal.returns-in-Err
returns-in-Err c = c.refusal_code.ensures ∙ ap rescued_code (sym c.in-Err.is)
