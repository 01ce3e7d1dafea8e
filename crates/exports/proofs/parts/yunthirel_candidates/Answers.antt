-- `parts::yunthirel_candidates` meets its contract. Assumes nothing.
use mathlib.Core.Path.{refl, sym, ap, ◌∙◌}
use Rattle.roots.specs.declared.RootCandidate.{RootCandidate}
use mathlib.Core.List.{List}
use Rattle.roots.proofs.Refused.{roots-refused, roots-listed}
use Rattle.exports.specs.Filled.{candidate_width, candidate_bytes}
use Rattle.exports.specs.Rows.{rows_filled}
use Rattle.exports.proofs.Bounds.{inputs_refused}
use Rattle.exports.proofs.Put.{candidates_is, both}
use Rattle.exports.proofs.parts.yunthirel_candidates.Goals as goal

pub refusal_code-requires : goal.refusal_code-requires
refusal_code-requires c =
    let a = c.args in
    inputs_refused a.word.now a.sheet.now _ _ refl (roots-refused a.word.now a.sheet.now _ (sym c.lookup_root_candidates.ensures ∙ c.in-Err.is))

pub returns-in-Err : goal.returns-in-Err
returns-in-Err c =
    let a = c.args in
    let e = roots-refused a.word.now a.sheet.now _ (sym c.lookup_root_candidates.ensures ∙ c.in-Err.is) in
    both (candidates_is a.word.now a.sheet.now a.out.now _ _ (sym e) refl) (c.refusal_code.ensures, refl)

pub returns-in-Ok : goal.returns-in-Ok
returns-in-Ok c =
    let a = c.args in
    let e = roots-listed a.word.now a.sheet.now c.in-Ok.list (sym c.lookup_root_candidates.ensures ∙ c.in-Ok.is) in
    both (ap (λ (l : List RootCandidate). rows_filled candidate_width candidate_bytes l a.out.now) c.as_slice.ensures.value ∙ candidates_is a.word.now a.sheet.now a.out.now _ _ (sym e.0) e.1) c.put_rows.ensures
