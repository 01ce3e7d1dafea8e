-- `origins::classify_root` meets its contract: the decision is asked of the reading's root. Assumes nothing.
use mathlib.Core.Path.{ap, ◌∙◌}
use Rattle.sheet.specs.Replies.{reply}
use Rattle.ranking.specs.Lists.{with_origin}
use Rattle.origin.specs.Decisions.{decision_of}
use Rattle.paths.specs.Readings.{classified}
use Rattle.analysis.proofs.origins.classify_root.Goals as goal

pub returns : goal.returns
unfolding classified
returns c =
    let a = c.args in
    c.with_origin.ensures
    ∙ ap (with_origin a.reading) (c.decide_origin.ensures ∙ ap (decision_of (reply a.sheet.now.bytes.now)) c.root_of.ensures)
