-- `analysis::prefixes::begins` meets its contract: the row is the form. Assumes nothing.
use Prim.Native.Nat.{ℕ}
use mathlib.Core.Path.{ap, ◌∙◌}
use mathlib.Core.List.{List}
use Rattle.runs.specs.Runs.{begins_with}
use Rattle.paths.specs.Chains.{form_of}
use Rattle.analysis.proofs.prefixes.begins.Goals as goal

pub returns : goal.returns
returns c = c.begins_with.ensures ∙ ap (λ (t : List ℕ). begins_with t c.args.text.now) (c.prefix_form.ensures ∙ ap form_of c.from.ensures)
