-- `entries::classify_with_provenance` meets its contract: the refusal of the word, else that of the sheet, else the decision by the accepted
-- sheet. Assumes nothing.
use Rattle.std.proofs.Common.{rules, ◌≡◌}
use Rattle.std.specs.Prelude.{Result}
use mathlib.Core.Path.{sym}
use Rattle.refusals.specs.declared.Refusal.{Refusal}
use Rattle.sheet.proofs.Refusals.{word-handed, sheet-handed, accepted-both}
use Rattle.sheet.specs.Replies.{reply}
use Rattle.origin.specs.Answers.{decision_answer}
use Rattle.origin.specs.Decisions.{decision_of}
use Rattle.origin.specs.declared.OriginDecision.{OriginDecision}
use Rattle.origin.proofs.Refused.{refused, given}
use Rattle.origin.proofs.entries.classify_with_provenance.Goals as goal

pub returns-in_err-check_word : goal.returns-in_err-check_word
returns-in_err-check_word c =
    let w = c.args.word.now in
    let s = c.args.sheet.now in
    word-handed w s (λ (r : Result OriginDecision Refusal). r ≡ decision_answer w s) (refused w s) _ _ c.from_residual.ensures c.in_err-check_word.ensures

pub returns-in_err-with_lexicon : goal.returns-in_err-with_lexicon
returns-in_err-with_lexicon c =
    let w = c.args.word.now in
    let s = c.args.sheet.now in
    sheet-handed w s (λ (r : Result OriginDecision Refusal). r ≡ decision_answer w s) (refused w s) _ _ c.from_residual-in_err-with_lexicon.ensures c.in_ok-check_word.ensures
    c.in_err-with_lexicon.ensures

pub returns : goal.returns
returns c =
    let w = c.args.word.now in
    let e = c.in_ok-with_lexicon.ensures in
    let h = e.given in
    let m : c.in_ok-with_lexicon.field-0 ≡ decision_of (reply e.lexicon.now.bytes.now) w = search rules in
    given w c.args.sheet.now _ (accepted-both w c.args.sheet.now (sym c.in_ok-check_word.ensures) e.accepted) (rw e.of_sheet at m)
