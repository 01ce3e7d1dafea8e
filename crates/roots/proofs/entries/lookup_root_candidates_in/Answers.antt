-- `entries::lookup_root_candidates_in` meets its contract: the refusal of the word, or the candidates by the accepted sheet. Assumes nothing.
use mathlib.Core.Path.{◌≡◌, sym}
use Rattle.std.specs.Prelude.{Result}
use Rattle.arrayvec.specs.ArrayVec.{ArrayVec}
use Rattle.refusals.specs.declared.Refusal.{Refusal}
use Rattle.roots.specs.declared.RootCandidate.{RootCandidate}
use Rattle.sheet.proofs.Refusals.{word-handed, accepted-both}
use Rattle.decomposition.proofs.Short.{word-short}
use Rattle.roots.specs.Answers.{roots_answer}
use Rattle.roots.proofs.Refused.{refused, given}
use Rattle.roots.proofs.entries.lookup_root_candidates_in.Goals as goal

pub collect_candidates-requires : goal.collect_candidates-requires
collect_candidates-requires c = word-short c.args.word.now (sym c.in_ok-check_word.ensures)

pub returns-in_err-check_word : goal.returns-in_err-check_word
returns-in_err-check_word c =
    let w = c.args.word.now in
    let s = c.args.sheet.now.bytes.now in
    word-handed w s (λ (r : Result (ArrayVec RootCandidate) Refusal). r ≡ roots_answer w s) (refused w s) _ _ c.from_residual.ensures c.in_err-check_word.ensures

pub returns : goal.returns
returns c =
    let w = c.args.word.now in
    let s = c.args.sheet.now.bytes.now in
    given w s _ (accepted-both w s (sym c.in_ok-check_word.ensures) c.args.sheet.now.indexed.accepted) c.collect_candidates.ensures
