-- `analysis::suffixes::ends` meets its contract: the row is the text. Assumes nothing.
use Prim.Native.Nat.{ℕ}
use mathlib.Core.Path.{sym, ap, ◌∙◌}
use mathlib.Core.List.{List, []}
use lib.ListN.{take, get_or}
use lib.Seq.{length-take-le}
use Rattle.runs.specs.Runs.{ends_in}
use Rattle.tables.specs.Tables.{affixes}
use Rattle.analysis.proofs.suffixes.ends.Goals as goal

pub slice_bounds-ends_with-end : goal.slice_bounds-ends_with-end
slice_bounds-ends_with-end c = sym (length-take-le c.args.at.now.end c.args.at.now.asked.now.word.now c.args.at.now.inside)

pub returns : goal.returns
returns c =
    c.ends_with.ensures
    ∙ ap (λ (t : List ℕ). ends_in t (take c.args.at.now.end c.args.at.now.asked.now.word.now)) (c.affix.ensures ∙ ap (λ (k : ℕ). get_or affixes k []) c.from.ensures)
