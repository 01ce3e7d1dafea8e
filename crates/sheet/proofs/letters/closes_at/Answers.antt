-- `sheet::letters::closes_at` meets its contract: at most the tag is left where one stands, else nothing. Assumes nothing.
use mathlib.Core.Path.{ap, ◌∙◌}
use Rattle.sheet.specs.Letters.{is_tagged}
use Rattle.sheet.proofs.Kept.{closes_by}
use Rattle.sheet.proofs.letters.closes_at.Goals as goal

pub returns : goal.returns
returns c = closes_by c.args.v.now c.args.i c.from.result c.is_some.result (c.is_some.ensures ∙ ap is_tagged c.tag_at.ensures) c.from.ensures
