-- `form::from_name` meets its contract: a form is longer than its head. Assumes nothing.
use Rattle.std.proofs.Common.{arith, length}
use Prim.Native.Nat.{◌+◌, ◌-◌, ◌≤◌}
use lib.ListN.{drop, length-drop}
use lib.Seq.{take_all}
use Rattle.sheet.proofs.Forms.{line-fits}
use Rattle.sheet.proofs.form.FormAt.from_name.Goals as goal

pub overflow_add-result : goal.overflow_add-result
overflow_add-result c = omega (arith, line-fits c.args.self.now.sheet.now c.args.self.now.at c.args.self.now.form)

pub slice_bounds-result-count : goal.slice_bounds-result-count
slice_bounds-result-count c = omega (arith, line-fits c.args.self.now.sheet.now c.args.self.now.at c.args.self.now.form)

pub slice_bounds-result-start : goal.slice_bounds-result-start
slice_bounds-result-start c = omega (arith, line-fits c.args.self.now.sheet.now c.args.self.now.at c.args.self.now.form)

pub returns : goal.returns
returns c =
    let s = c.args.self.now.sheet.now in
    let n = c.args.self.now.at + 3 in
    let h : length (drop n s) ≤ length s - n = simp length-drop (omega arith) in
    take_all _ _ h
