-- `analysis::entry::analyze_affixes_in` meets its contract: the refusal of the word, or the list by the accepted sheet. Assumes nothing.
use mathlib.Core.Path.{sym, ap, ◌∙◌}
use Rattle.std.specs.Prelude.{Err}
use Rattle.sheet.proofs.Refusals.{word-refused, accepted-both}
use Rattle.analysis.proofs.Answered.{refused, listed}
use Rattle.analysis.proofs.entry.analyze_affixes_in.Goals as goal

pub returns-in-Err : goal.returns-in-Err
returns-in-Err c =
    let w = c.args.word.now in
    let s = c.args.sheet.now.bytes.now in
    let e = c.refused.ensures in
    refused w s _ _ _ (word-refused w s c.in-Err.fault (sym c.check_word.ensures ∙ c.in-Err.is)) (e.0 ∙ ap Err c.from.ensures) e.1

pub returns-in-Ok : goal.returns-in-Ok
returns-in-Ok c =
    let w = c.args.word.now in
    let s = c.args.sheet.now.bytes.now in
    let e = c.listed.ensures in
    listed w s _ _ (accepted-both w s (sym c.check_word.ensures ∙ c.in-Ok.is) c.args.sheet.now.indexed.accepted) e.0 e.1
