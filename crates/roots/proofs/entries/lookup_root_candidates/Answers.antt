-- `entries::lookup_root_candidates` meets its contract: the refusal of the word, else that of the sheet, else the candidates by the accepted
-- sheet. Assumes nothing.
use Rattle.std.proofs.Common.{rules, ◌≡◌}
use Rattle.std.proofs.iter.Serving.{serving}
use mathlib.Core.Path.{sym}
use Rattle.std.specs.Prelude.{Result}
use Rattle.arrayvec.specs.ArrayVec.{ArrayVec}
use Rattle.refusals.specs.declared.Refusal.{Refusal}
use Rattle.roots.specs.declared.RootCandidate.{RootCandidate}
use Rattle.sheet.proofs.Refusals.{word-handed, sheet-handed, accepted-both}
use Rattle.sheet.specs.Replies.{reply}
use Rattle.decomposition.proofs.Short.{word-short}
use Rattle.roots.specs.Candidates.{candidates}
use Rattle.roots.specs.Answers.{roots_answer}
use Rattle.roots.proofs.Refused.{refused, given}
use Rattle.roots.proofs.entries.lookup_root_candidates.Goals as goal

pub with_lexicon-requires : goal.with_lexicon-requires
with_lexicon-requires c =
    let h = word-short c.args.word.now (sym c.in_ok-check_word.ensures) in
    grind serving

pub returns-in_err-check_word : goal.returns-in_err-check_word
returns-in_err-check_word c =
    let w = c.args.word.now in
    let s = c.args.sheet.now in
    word-handed w s (λ (r : Result (ArrayVec RootCandidate) Refusal). r ≡ roots_answer w s) (refused w s) _ _ c.from_residual.ensures c.in_err-check_word.ensures

pub returns-in_err-with_lexicon : goal.returns-in_err-with_lexicon
returns-in_err-with_lexicon c =
    let w = c.args.word.now in
    let s = c.args.sheet.now in
    sheet-handed w s (λ (r : Result (ArrayVec RootCandidate) Refusal). r ≡ roots_answer w s) (refused w s) _ _ c.from_residual-in_err-with_lexicon.ensures c.in_ok-check_word.ensures c.in_err-with_lexicon.ensures

pub returns : goal.returns
returns c =
    let w = c.args.word.now in
    let e = c.in_ok-with_lexicon.ensures in
    let h = e.given in
    let m : c.in_ok-with_lexicon.field-0.items ≡ candidates (reply e.lexicon.now.bytes.now) w = search rules in
    given w c.args.sheet.now _ (accepted-both w c.args.sheet.now (sym c.in_ok-check_word.ensures) e.accepted) (rw e.of_sheet at m)
