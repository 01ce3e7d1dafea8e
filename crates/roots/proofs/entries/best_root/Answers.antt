-- `entries::best_root` meets its contract. Assumes nothing.
use Rattle.std.proofs.lemmas.Result.{err_from_is_err_and}
use mathlib.Core.Path.{sym, ap, ◌∙◌}
use mathlib.Core.List.{List}
use Rattle.std.specs.Prelude.{Ok, slice_get}
use Rattle.roots.specs.declared.RootCandidate.{RootCandidate}
use Rattle.roots.proofs.Firsts.{best_for, best_given}
use Rattle.roots.proofs.entries.best_root.Goals as goal

pub returns-in_err-roots : goal.returns-in_err-roots
returns-in_err-roots c =
    let p = err_from_is_err_and c.from_residual.result c.from_residual.ensures.1 in
    rw (p.1, p.2) (ap best_for (sym c.in_err-roots.was ∙ c.lookup_root_candidates.ensures) ∙ best_given c.args.word.now c.args.sheet.now)

pub returns : goal.returns
returns c =
    ap Ok (c.copied.ensures ∙ c.first.ensures.value ∙ ap (λ (l : List RootCandidate). slice_get l 0) c.as_slice.ensures.value)
    ∙ ap best_for (sym c.in_ok-roots.was ∙ c.lookup_root_candidates.ensures) ∙ best_given c.args.word.now c.args.sheet.now
