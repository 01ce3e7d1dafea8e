-- `exports::yes_code` meets its contract: the place of a refusal is small enough. Assumes nothing.
use mathlib.Core.Path.{sym, ap, subst, ◌∙◌}
use Rattle.exports.specs.Codes.{PlacedIn, yes_code}
use Rattle.exports.proofs.yes_code.Goals as goal

pub refusal_code-requires : goal.refusal_code-requires
refusal_code-requires c = subst PlacedIn c.in-Err.is c.requires

pub returns-in-Err : goal.returns-in-Err
returns-in-Err c = c.refusal_code.ensures ∙ ap yes_code (sym c.in-Err.is)
