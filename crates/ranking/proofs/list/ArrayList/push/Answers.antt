-- `List::push` meets its contract: one cell more is a row, and those behind it are blank as before. Assumes nothing.
use Rattle.std.proofs.Common.{◌∙◌, ◌+◌, arith, length-set, drop-set-lt, rules}
use Rattle.ranking.proofs.Cells.{blank_rest}
use Rattle.ranking.proofs.list.ArrayList.push.Goals as goal

pub invariant_of-self : goal.invariant_of-self
invariant_of-self g c =
    let s = c.self.inside in
    let i = c.self.invariant in (
      search rules,
      length-set s.cells s.len c.args.row ∙ i.1,
      drop-set-lt (s.len + 1) s.cells s.len c.args.row (omega arith) ∙ blank_rest g.T.Blank.blank_row g.row.CAP s.cells s.len i.2,
    )
