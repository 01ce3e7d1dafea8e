-- `analysis::entry::best_analysis` meets its contract: the first of the rows, if there is one. Assumes nothing.
use Rattle.std.proofs.lemmas.Result.{err_from_is_err_and}
use Rattle.std.specs.Prelude.{Ok, slice_get, Option}
use Rattle.ranking.specs.declared.Classified.{Classified}
use mathlib.Core.Path.{sym, ap, ◌∙◌}
use mathlib.Core.List.{List}
use Rattle.analysis.proofs.Answered.{best-listed, best-refused}
use Rattle.analysis.proofs.entry.best_analysis.Goals as goal

pub returns-in_err-list : goal.returns-in_err-list
returns-in_err-list c =
    let p = err_from_is_err_and c.from_residual.result c.from_residual.ensures.1 in
    rw (p.1, p.2) (best-refused c.args.word.now c.args.sheet.now _ (sym c.analyze_affixes.ensures.0 ∙ c.in_err-list.was))

pub returns : goal.returns
returns c =
    let o = c.copied.ensures ∙ c.first.ensures.value ∙ ap (λ (l : List Classified). slice_get l 0) c.as_slice.ensures.value in
    ap (λ (x : Option Classified). Ok x) o
    ∙ best-listed c.args.word.now c.args.sheet.now c.in_ok-list.list (sym c.analyze_affixes.ensures.0 ∙ c.in_ok-list.was)
