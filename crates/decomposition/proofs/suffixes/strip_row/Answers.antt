-- `suffixes::strip_row` meets its contract: the stage is the same, or one label further. Assumes nothing.
use mathlib.Core.Path.{refl, sym}
use lib.Seq.{length-take-le}
use Rattle.sheet.specs.Replies.{reply}
use Rattle.decomposition.proofs.Stages.{row-none, row-some}
use Rattle.decomposition.proofs.suffixes.strip_row.Goals as goal

pub slice_bounds-first_rest-end : goal.slice_bounds-first_rest-end
slice_bounds-first_rest-end c = sym (length-take-le _ _ c.requires.1.inside)

pub returns-in_default : goal.returns-in_default
returns-in_default c =
    let a = c.args in
    row-none (reply a.sheet.now.bytes.now) a.least a.k a.piece.now a.suffix.now a.s.now c.requires.1 (rw c.in_default.is at c.first_rest.ensures)

pub returns-in-Some : goal.returns-in-Some
returns-in-Some c =
    let a = c.args in
    row-some (reply a.sheet.now.bytes.now) a.least a.k a.piece.now a.suffix.now a.s.now c.requires.1 c.in-Some.len c.label_row.result _ (rw c.in-Some.is at c.first_rest.ensures) refl c.label_row.ensures c.push.ensures.items
