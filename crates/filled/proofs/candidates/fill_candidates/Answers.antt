-- `fill_candidates` meets its contract: why there is no list, or its rows fill the slice. Assumes nothing.
use Rattle.std.proofs.lemmas.Result.{err_from_is_err_and}
use Rattle.std.proofs.Common.{rules, List}
use Rattle.std.proofs.lemmas.List.{map-id}
use mathlib.Core.Path.{sym, ap, ◌∙◌}
use Rattle.refusals.specs.Refusals.{output_by}
use Rattle.roots.proofs.Refused.{roots-refused, roots-listed}
use Rattle.filled.proofs.Outcomes.{roots_refused, roots_wrote}
use Rattle.filled.proofs.candidates.fill_candidates.Goals as goal

pub returns-in_err-list : goal.returns-in_err-list
returns-in_err-list c =
    let a = c.args in
    let p = err_from_is_err_and c.from_residual.result c.from_residual.ensures.1 in
    rw (p.1, p.2) (roots_refused a.word.now a.sheet.now a.out.now _ (roots-refused a.word.now a.sheet.now _ (sym c.lookup_root_candidates.ensures ∙ c.in_err-list.was)))

pub returns : goal.returns
returns c =
    let a = c.args in
    let e = roots-listed a.word.now a.sheet.now c.in_ok-list.list (sym c.lookup_root_candidates.ensures ∙ c.in_ok-list.was) in
    roots_wrote a.word.now a.sheet.now a.out.now _ _ _ e.0 (c.as_slice.ensures.value ∙ e.1) c.fill.ensures.size (c.fill.ensures.left (λ x. x) (λ x y k. search rules) ∙ ap (λ (l : List _). output_by c.fill.result l a.out.now) (map-id _))
