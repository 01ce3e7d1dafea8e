-- `entries::has_known_root` meets its contract. Assumes nothing.
use Rattle.std.proofs.lemmas.Result.{err_from_is_err_and}
use mathlib.Core.Path.{sym, ap, ◌∙◌}
use Rattle.std.specs.Prelude.{Ok}
use Rattle.roots.proofs.Firsts.{known_for, known_given}
use Rattle.roots.proofs.entries.has_known_root.Goals as goal

pub returns-in_err-best_root : goal.returns-in_err-best_root
returns-in_err-best_root c =
    let p = err_from_is_err_and c.from_residual.result c.from_residual.ensures.1 in
    rw (p.1, p.2) (ap known_for (sym c.in_err-best_root.was ∙ c.best_root.ensures) ∙ known_given c.args.word.now c.args.sheet.now)

pub returns : goal.returns
returns c =
    ap Ok c.is_some.ensures ∙ ap known_for (sym c.in_ok-best_root.was ∙ c.best_root.ensures) ∙ known_given c.args.word.now c.args.sheet.now
