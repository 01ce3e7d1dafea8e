-- `entry::analyze_progressive_in` meets its contract: the refusal of the word, or what is found in the accepted sheet. Assumes nothing.
use mathlib.Core.Path.{sym}
use Rattle.sheet.proofs.Refusals.{word-handed, accepted-both}
use Rattle.progressive.specs.Answers.{Analyzed}
use Rattle.progressive.proofs.Entries.{refused, given}
use Rattle.progressive.proofs.entry.analyze_progressive_in.Goals as goal

pub returns-in_err-check_word : goal.returns-in_err-check_word
returns-in_err-check_word c =
    let w = c.args.word.now in
    let s = c.args.sheet.now.bytes.now in
    word-handed w s (Analyzed w s) (refused w s) _ _ c.from_residual.ensures c.in_err-check_word.ensures

pub returns : goal.returns
returns c =
    let w = c.args.word.now in
    let s = c.args.sheet.now.bytes.now in
    given w s _ (accepted-both w s (sym c.in_ok-check_word.ensures) c.args.sheet.now.indexed.accepted) c.find_progressive.ensures
