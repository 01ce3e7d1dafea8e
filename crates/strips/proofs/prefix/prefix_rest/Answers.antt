-- `strips::prefix::prefix_rest` meets its contract: a piece that begins with the form is as long. Assumes nothing.
use mathlib.Core.Path.{sym, ◌∙◌}
use Rattle.strips.proofs.Returns.{begins-length}
use Rattle.strips.proofs.prefix.prefix_rest.Goals as goal

pub slice_bounds-count-count : goal.slice_bounds-count-count
slice_bounds-count-count c = begins-length c.args.form.now c.args.piece.now (sym c.begins_with.ensures ∙ c.if-not-begins_with.false)

pub slice_bounds-count-start : goal.slice_bounds-count-start
slice_bounds-count-start c = begins-length c.args.form.now c.args.piece.now (sym c.begins_with.ensures ∙ c.if-not-begins_with.false)
