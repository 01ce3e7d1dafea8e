-- `suffixes::open_rests` meets its contract: the rule of pronouns is asked only where there is a remainder. Assumes nothing.
use mathlib.Core.Path.{sym, ◌∙◌}
use Rattle.sheet.specs.Replies.{reply}
use Rattle.decomposition.proofs.Taken.{none_if, none_is, open_none, open_kept, open_free}
use Rattle.decomposition.proofs.suffixes.open_rests.Goals as goal
use Rattle.decomposition.proofs.suffixes.open_rests.Goals.{else-is_some-via-then-is_some+else-is_kept, else-is_some-via-else-is_some}

pub returns-then-is_kept : goal.returns-then-is_kept
returns-then-is_kept c =
    let a = c.args in
    none_is c.default.result c.default.ensures.0 c.default.ensures.1 ∙ open_kept (reply a.sheet.now.bytes.now) a.piece.now a.suffix.now (sym c.is_kept.ensures ∙ c.if-is_kept.true)

pub returns-else-is_some : goal.returns-else-is_some
returns-else-is_some c =
    let a = c.args in
    let ask = reply a.sheet.now.bytes.now in
    let rests = c.suffix_rests-rests in
    elim c.else-is_some.branch [
      | else-is_some-via-then-is_some+else-is_kept w ↦ open_free ask a.piece.now a.suffix.now rests.result (sym w.is_kept.ensures ∙ w.if-is_kept.false) rests.ensures
      | else-is_some-via-else-is_some w ↦ open_none ask a.piece.now a.suffix.now rests.result rests.ensures (none_if rests.result.plain (sym c.is_some.ensures ∙ w.if-is_some.false))
    ]
