-- `form::value` meets its contract: the value stands between its own ends. Assumes nothing.
use Rattle.std.proofs.Common.{arith, ℕ, ◌≡◌, ap₂, ◌∙◌, length}
use Prim.Native.Nat.{◌-◌}
use lib.ListN.{take, drop}
use Rattle.sheet.specs.Lines.{line_at}
use Rattle.sheet.proofs.Forms.{line-fits, value-text}
use Rattle.sheet.proofs.form.FormAt.value.Goals as goal

pub slice_bounds-result-count : goal.slice_bounds-result-count
slice_bounds-result-count c = omega (arith, c.value_ends-from.ensures.0, c.value_ends-from.ensures.1)

pub slice_bounds-result-end : goal.slice_bounds-result-end
slice_bounds-result-end c = omega (arith, c.value_ends-from.ensures.1, line-fits c.args.self.now.sheet.now c.args.self.now.at c.args.self.now.form)

pub returns : goal.returns
returns c =
    let s = c.args.self.now.sheet.now in
    let e = line_at s c.args.self.now.at in
    let n : c.value_ends-from.result.1 - c.value_ends-from.result.0 ≡ length e.value = omega (arith, c.value_ends-from.ensures.0, c.value_ends-from.ensures.1) in
    ap₂ (λ (k m : ℕ). take k (drop m s)) n c.value_ends-from.ensures.0 ∙ value-text s c.args.self.now.at c.args.self.now.form
