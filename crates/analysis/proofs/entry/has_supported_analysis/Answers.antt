-- `analysis::entry::has_supported_analysis` meets its contract: the refusal of the word, else that of the sheet, else what is asked of the
-- accepted sheet. Assumes nothing.
use Rattle.std.proofs.Common.{rules, ◌≡◌, Bool}
use Rattle.std.specs.Prelude.{Result}
use mathlib.Core.Path.{sym, ◌∙◌}
use Rattle.refusals.specs.declared.Refusal.{Refusal}
use Rattle.sheet.proofs.Refusals.{word-handed, sheet-handed, accepted-both}
use Rattle.sheet.specs.Replies.{reply}
use Rattle.analysis.specs.Answers.{collected, has_kept, has_of}
use Rattle.analysis.proofs.Answered.{has_told, has_asked}
use Rattle.analysis.proofs.entry.has_supported_analysis.Goals as goal

pub returns-in_err-check_word : goal.returns-in_err-check_word
returns-in_err-check_word c =
    let w = c.args.word.now in
    let s = c.args.sheet.now in
    word-handed w s (λ (r : Result Bool Refusal). r ≡ has_of w s) (has_told w s) _ _ c.from_residual.ensures c.in_err-check_word.ensures

pub returns-in_err-with_lexicon : goal.returns-in_err-with_lexicon
returns-in_err-with_lexicon c =
    let w = c.args.word.now in
    let s = c.args.sheet.now in
    sheet-handed w s (λ (r : Result Bool Refusal). r ≡ has_of w s) (has_told w s) _ _ c.from_residual-in_err-with_lexicon.ensures c.in_ok-check_word.ensures
    c.in_err-with_lexicon.ensures

pub returns : goal.returns
returns c =
    let w = c.args.word.now in
    let e = c.in_ok-with_lexicon.ensures in
    let h = e.given in
    let m : c.in_ok-with_lexicon.field-0 ≡ has_kept (reply e.lexicon.now.bytes.now) w (collected w e.lexicon.now.bytes.now) = search rules in
    rw e.of_sheet at m ∙ has_asked w c.args.sheet.now (accepted-both w c.args.sheet.now (sym c.in_ok-check_word.ensures) e.accepted)
