-- `entries::decompose_in` meets its contract: the refusal of the word, or the decomposition by the accepted sheet. Assumes nothing.
use mathlib.Core.Path.{◌≡◌, sym}
use Rattle.std.specs.Prelude.{Result}
use Rattle.refusals.specs.declared.Refusal.{Refusal}
use Rattle.sheet.proofs.Refusals.{word-handed, accepted-both}
use Rattle.decomposition.specs.Answers.{morpheme_answer}
use Rattle.decomposition.specs.declared.Morpheme.{Morpheme}
use Rattle.decomposition.proofs.Refused.{refused, given}
use Rattle.decomposition.proofs.Short.{word-short}
use Rattle.decomposition.proofs.entries.decompose_in.Goals as goal

pub decompose_word-requires : goal.decompose_word-requires
decompose_word-requires c = word-short c.args.word.now (sym c.in_ok-check_word.ensures)

pub returns-in_err-check_word : goal.returns-in_err-check_word
returns-in_err-check_word c =
    let w = c.args.word.now in
    let s = c.args.sheet.now.bytes.now in
    word-handed w s (λ (r : Result Morpheme Refusal). r ≡ morpheme_answer w s) (refused w s) _ _ c.from_residual.ensures c.in_err-check_word.ensures

pub returns : goal.returns
returns c =
    let w = c.args.word.now in
    let s = c.args.sheet.now.bytes.now in
    given w s _ (accepted-both w s (sym c.in_ok-check_word.ensures) c.args.sheet.now.indexed.accepted) c.decompose_word.ensures
