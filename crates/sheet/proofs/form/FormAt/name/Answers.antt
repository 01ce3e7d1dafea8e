-- `form::name` meets its contract: the name stands between its own ends. Assumes nothing.
use Rattle.std.proofs.Common.{arith, ℕ, ◌≡◌, ap₂, ◌∙◌, length}
use Prim.Native.Nat.{◌-◌}
use lib.ListN.{take, drop}
use Rattle.sheet.specs.Lines.{line_at}
use Rattle.sheet.proofs.Forms.{line-fits, name-text}
use Rattle.sheet.proofs.form.FormAt.name.Goals as goal

pub slice_bounds-result-count : goal.slice_bounds-result-count
slice_bounds-result-count c = omega (arith, c.name_ends-from.ensures.0, c.name_ends-from.ensures.1)

pub slice_bounds-result-end : goal.slice_bounds-result-end
slice_bounds-result-end c = omega (arith, c.name_ends-from.ensures.1, line-fits c.args.self.now.sheet.now c.args.self.now.at c.args.self.now.form)

pub returns : goal.returns
returns c =
    let s = c.args.self.now.sheet.now in
    let e = line_at s c.args.self.now.at in
    let n : c.name_ends-from.result.1 - c.name_ends-from.result.0 ≡ length e.name = omega (arith, c.name_ends-from.ensures.0, c.name_ends-from.ensures.1) in
    ap₂ (λ (k m : ℕ). take k (drop m s)) n c.name_ends-from.ensures.0 ∙ name-text s c.args.self.now.at c.args.self.now.form
