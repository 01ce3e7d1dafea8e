-- A candidate's row meets its contract. Assumes nothing.
use mathlib.Core.Path.{ap, ◌∙◌}
use mathlib.Core.List.{List, ◌++◌}
use Prim.Native.Nat.{ℕ}
use native.Mathlib.Omega.{arith}
use lib.ListN.{drop}
use Rattle.exports.proofs.Put.{candidate-bytes}
use Rattle.exports.proofs.parts.RootCandidateRow.put.Goals as goal

pub returns : goal.returns
returns c =
    let a = c.args in
    c.put_parts.ensures ∙ ap (λ (l : List ℕ). l ++ drop 33 a.out.now) (candidate-bytes a.self c.origin_number-origin.ensures.0 c.from.ensures c.from-2.ensures (omega arith) c.to_le_bytes-score.ensures)
