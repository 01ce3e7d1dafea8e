-- `find::verb_at` meets its contract: a verb has a line, which holds its name. Assumes nothing.
use mathlib.Core.Path.{sym, ◌∙◌}
use mathlib.Core.List.{◌++◌}
use Rattle.progressive.proofs.Verbs.{not-verb, verb-named}
use Rattle.progressive.proofs.find.verb_at.Goals as goal

pub returns-then-not-is_verb : goal.returns-then-not-is_verb
returns-then-not-is_verb c =
    let a = c.args in
    not-verb a.sheet.now.bytes.now (a.p.now ++ a.q.now) (sym c.is_verb.ensures ∙ c.if-not-is_verb.true)

pub returns : goal.returns
returns c =
    let a = c.args in
    verb-named a.sheet.now.bytes.now _ (a.p.now ++ a.q.now) (sym c.is_verb.ensures ∙ c.if-not-is_verb.false) c.spot_of.ensures
