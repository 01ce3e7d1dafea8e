-- `keys::rest_order` meets its contract: a name that begins with p stands to p and q as what follows stands to q. Assumes nothing.
use mathlib.Core.Path.{ap, ◌∙◌}
use mathlib.Core.List.{List}
use Prim.Native.Nat.{ℕ, ◌-◌, ◌≤◌}
use native.Mathlib.Omega.{arith}
use lib.ListN.{length, drop, length-drop}
use lib.Seq.{take_all}
use Rattle.runs.specs.Runs.{cmp}
use Rattle.sheet.specs.Keys.{spaced}
use Rattle.sheet.proofs.Spaced.{first-leaves, head-fits, spaced-le}
use Rattle.sheet.proofs.keys.rest_order.Goals as goal
use Rattle.sheet.proofs.keys.rest_order.Goals.{After-shared_slice_known-3-1}

-- a name that begins with p stands in t
fits : (c : After-shared_slice_known-3-1) → let a = c.args in length a.p.now ≤ length a.t.now
fits c =
    omega (arith, head-fits (spaced c.args.t.now) c.args.p.now c.requires, spaced-le c.args.t.now)

pub slice_bounds-name_order-count : goal.slice_bounds-name_order-count
slice_bounds-name_order-count c = fits (goal.at.slice_bounds-name_order-count c).After-shared_slice_known-3-1

pub slice_bounds-name_order-start : goal.slice_bounds-name_order-start
slice_bounds-name_order-start c = fits (goal.at.slice_bounds-name_order-start c).After-shared_slice_known-3-1

pub returns : goal.returns
returns c =
    let a = c.args in
    let n = length a.p.now in
    let h : length (drop n a.t.now) ≤ length a.t.now - n = simp length-drop (omega arith) in
    c.name_order.ensures ∙ ap (λ (l : List ℕ). cmp (spaced l) a.q.now) (take_all _ _ h) ∙ first-leaves a.t.now a.p.now a.q.now c.requires
