-- `entries::classify_with_provenance_in` meets its contract: the refusal of the word, or the decision by the accepted sheet. Assumes nothing.
use mathlib.Core.Path.{◌≡◌, sym}
use Rattle.std.specs.Prelude.{Result}
use Rattle.refusals.specs.declared.Refusal.{Refusal}
use Rattle.sheet.proofs.Refusals.{word-handed, accepted-both}
use Rattle.origin.specs.Answers.{decision_answer}
use Rattle.origin.specs.declared.OriginDecision.{OriginDecision}
use Rattle.origin.proofs.Refused.{refused, given}
use Rattle.origin.proofs.entries.classify_with_provenance_in.Goals as goal

pub returns-in_err-check_word : goal.returns-in_err-check_word
returns-in_err-check_word c =
    let w = c.args.word.now in
    let s = c.args.sheet.now.bytes.now in
    word-handed w s (λ (r : Result OriginDecision Refusal). r ≡ decision_answer w s) (refused w s) _ _ c.from_residual.ensures c.in_err-check_word.ensures

pub returns : goal.returns
returns c =
    let w = c.args.word.now in
    let s = c.args.sheet.now.bytes.now in
    given w s _ (accepted-both w s (sym c.in_ok-check_word.ensures) c.args.sheet.now.indexed.accepted) c.decide_origin.ensures
