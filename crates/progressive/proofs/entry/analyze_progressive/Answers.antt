-- `entry::analyze_progressive` meets its contract: the refusal of the word, else that of the sheet, else what is found in the accepted
-- sheet. Assumes nothing.
use Rattle.std.proofs.Common.{rules}
use mathlib.Core.Path.{sym}
use Rattle.progressive.specs.Found.{FormAt}
use Rattle.sheet.proofs.Refusals.{word-handed, sheet-handed, accepted-both}
use Rattle.progressive.specs.Answers.{Analyzed}
use Rattle.progressive.proofs.Entries.{refused, given}
use Rattle.progressive.proofs.entry.analyze_progressive.Goals as goal

pub returns-in_err-check_word : goal.returns-in_err-check_word
returns-in_err-check_word c =
    let a = c.args in
    word-handed a.word.now a.sheet.now (Analyzed a.word.now a.sheet.now) (refused a.word.now a.sheet.now) _ _ c.from_residual.ensures c.in_err-check_word.ensures

pub returns-in_err-with_lexicon : goal.returns-in_err-with_lexicon
returns-in_err-with_lexicon c =
    let a = c.args in
    sheet-handed a.word.now a.sheet.now (Analyzed a.word.now a.sheet.now) (refused a.word.now a.sheet.now) _ _ c.from_residual-in_err-with_lexicon.ensures c.in_ok-check_word.ensures
    c.in_err-with_lexicon.ensures

pub returns : goal.returns
returns c =
    let a = c.args in
    let e = c.in_ok-with_lexicon.ensures in
    let h = e.given in
    let m : FormAt e.lexicon.now.bytes.now a.word.now c.in_ok-with_lexicon.field-0 = search rules in
    given a.word.now a.sheet.now _ (accepted-both a.word.now a.sheet.now (sym c.in_ok-check_word.ensures) e.accepted) (rw e.of_sheet at m)
