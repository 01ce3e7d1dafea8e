-- `surface::row_reading` meets its contract. Assumes nothing.
use mathlib.Core.Path.{◌∙◌}
use Rattle.exports.proofs.Surfaces.{row_long, row-short}
use Rattle.exports.proofs.surface.row_reading.Goals as goal

pub returns-then-row-lt-WIDTH : goal.returns-then-row-lt-WIDTH
returns-then-row-lt-WIDTH c = c.get_reading.ensures ∙ row-short c.args.row.now c.if-row-lt-WIDTH.true

pub returns : goal.returns
returns c = c.get_reading-2.ensures ∙ row_long c.args.row.now c.if-row-lt-WIDTH.false
