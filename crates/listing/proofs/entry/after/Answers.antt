-- `entry::after` meets its contract. Assumes nothing.
use Prim.Native.Nat.{ℕ, ◌+◌}
use native.Mathlib.Omega.{arith}
use mathlib.Core.Path.{ap, ◌∙◌}
use lib.ListN.{drop}
use Rattle.listing.proofs.Answered.{cut-from, cut-least}
use Rattle.listing.proofs.entry.after.Goals as goal

pub returns : goal.returns
returns c =
    let i = c.args.input.now in
    let e = c.min.ensures in
    cut-from i c.min.result (omega arith) ∙ ap (λ (n : ℕ). drop n i) e ∙ cut-least i (c.args.end + 1)
