-- `walk::next_stretch` meets its contract, by what the walk reaches. Assumes nothing.
use Rattle.std.specs.Prelude.{Ok}
use mathlib.Core.Path.{sym, ap, subst, ◌∙◌}
use Rattle.rescued.specs.Places.{Stepped}
use Rattle.rescued.proofs.Stretched.{at_end, at_fault, at_form}
use Rattle.rescued.proofs.walk.next_stretch.Goals as goal

pub returns-in-Ok-Some : goal.returns-in-Ok-Some
returns-in-Ok-Some c =
    at_form c.args.s.now c.args.walk c.requires.0 c.requires.1 c.in-Ok-Some.form (sym (c.in-Ok-Some.is ∙ ap (λ o. Ok o) c.in-Ok-Some.field-0-is) ∙ c.step.ensures)

pub returns-in-Err : goal.returns-in-Err
returns-in-Err c =
    subst (Stepped c.args.s.now c.args.walk) (sym c.dropped-in-Err.ensures)
    (at_fault c.args.s.now c.args.walk c.requires.0 c.requires.1 c.in-Err.fault (sym c.in-Err.is ∙ c.step.ensures))

pub returns-in-Ok-None : goal.returns-in-Ok-None
returns-in-Ok-None c =
    absurd (at_end c.args.s.now c.args.walk c.requires.0 c.requires.1 (sym (c.in-Ok-None.is ∙ ap (λ o. Ok o) c.in-Ok-None.field-0-is) ∙ c.step.ensures))
