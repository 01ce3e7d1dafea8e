-- `analysis::entry::visits_of` meets its contract: the refusal of the word, else that of the sheet, else the number by the accepted sheet.
-- Assumes nothing.
use Rattle.std.proofs.Common.{rules, ◌≡◌, ℕ}
use Rattle.std.specs.Prelude.{Ok, Result}
use mathlib.Core.Path.{sym, ap, ◌∙◌}
use Rattle.refusals.specs.declared.Refusal.{Refusal}
use Rattle.sheet.proofs.Refusals.{word-handed, sheet-handed, accepted-both}
use Rattle.sheet.specs.Replies.{reply}
use Rattle.paths.specs.Visits.{visits_of}
use Rattle.analysis.specs.Answers.{visits_answer}
use Rattle.analysis.proofs.Answered.{visits_refused, visits_counted}
use Rattle.analysis.proofs.entry.visits_of.Goals as goal

pub returns-in_err-check_word : goal.returns-in_err-check_word
returns-in_err-check_word c =
    let w = c.args.word.now in
    let s = c.args.sheet.now in
    word-handed w s (λ (r : Result ℕ Refusal). r ≡ visits_answer w s) (visits_refused w s) _ _ c.from_residual.ensures c.in_err-check_word.ensures

pub returns-in_err-with_lexicon : goal.returns-in_err-with_lexicon
returns-in_err-with_lexicon c =
    let w = c.args.word.now in
    let s = c.args.sheet.now in
    sheet-handed w s (λ (r : Result ℕ Refusal). r ≡ visits_answer w s) (visits_refused w s) _ _ c.from_residual-in_err-with_lexicon.ensures c.in_ok-check_word.ensures
    c.in_err-with_lexicon.ensures

pub returns : goal.returns
returns c =
    let w = c.args.word.now in
    let e = c.in_ok-with_lexicon.ensures in
    let h = e.given in
    let m : c.in_ok-with_lexicon.field-0 ≡ visits_of (reply e.lexicon.now.bytes.now) w = search rules in
    ap Ok (rw e.of_sheet at m) ∙ visits_counted w c.args.sheet.now (accepted-both w c.args.sheet.now (sym c.in_ok-check_word.ensures) e.accepted)
