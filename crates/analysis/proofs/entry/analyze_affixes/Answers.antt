-- `analysis::entry::analyze_affixes` meets its contract: the refusal of the word, else that of the sheet, else the list by the accepted
-- sheet. Assumes nothing.
use Rattle.std.proofs.Common.{rules, ◌≡◌}
use mathlib.Core.Path.{sym, ap, ◌∙◌}
use Rattle.std.specs.Prelude.{Err, Ok}
use Rattle.text.specs.Word.{word_check}
use Rattle.sheet.proofs.Refusals.{word-refused, sheet-refused, accepted-both}
use Rattle.analysis.proofs.Answered.{Listed, refused, listed}
use Rattle.analysis.proofs.entry.analyze_affixes.Goals as goal

pub returns-in-Err : goal.returns-in-Err
returns-in-Err c =
    let w = c.args.word.now in
    let s = c.args.sheet.now in
    let e = c.refused.ensures in
    refused w s _ _ _ (word-refused w s c.in-Err.fault (sym c.check_word.ensures ∙ c.in-Err.is)) (e.0 ∙ ap Err c.from.ensures) e.1

pub returns-in-Err-with_lexicon : goal.returns-in-Err-with_lexicon
returns-in-Err-with_lexicon c =
    let w = c.args.word.now in
    let s = c.args.sheet.now in
    let e = c.refused-in-Err-with_lexicon.ensures in
    let ok : word_check w ≡ Ok tt = search rules in
    refused w s _ _ _ (sheet-refused w s c.in-Err-with_lexicon.fault ok c.in-Err-with_lexicon.ensures) (e.0 ∙ ap Err c.from-in-Err-with_lexicon.ensures) e.1

pub returns-in-Ok : goal.returns-in-Ok
returns-in-Ok c =
    let w = c.args.word.now in
    let s = c.args.sheet.now in
    let e = c.in-Ok.ensures in
    let ok : word_check w ≡ Ok tt = search rules in
    let a = c.in-Ok.analysis in
    let h = e.given in
    let m : Listed w e.lexicon.now.bytes.now a.list a.visits = search rules in
    let l = rw e.of_sheet at m in
    listed w s _ _ (accepted-both w s ok e.accepted) l.0 l.1
