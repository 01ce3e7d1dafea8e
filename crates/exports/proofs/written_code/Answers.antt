-- `exports::written_code` meets its contract: what was written is no longer than the longest list. Assumes nothing.
use native.Mathlib.Omega.{arith}
use mathlib.Core.Path.{sym, ap, subst, ◌∙◌}
use Rattle.exports.specs.Codes.{Small, written_code}
use Rattle.exports.proofs.written_code.Goals as goal

pub overflow_mul-result : goal.overflow_mul-result
overflow_mul-result c = let s = subst Small c.in-Ok.is c.requires in omega (arith, s)

pub refusal_code-requires : goal.refusal_code-requires
refusal_code-requires c = subst Small c.in-Err.is c.requires

pub returns-in-Ok : goal.returns-in-Ok
returns-in-Ok c = ap written_code (sym c.in-Ok.is)

pub returns-in-Err : goal.returns-in-Err
returns-in-Err c = c.refusal_code.ensures ∙ ap written_code (sym c.in-Err.is)
