-- `form::name_ends` meets its contract: the name ends at the first space. Assumes nothing.
use mathlib.Core.Path.{refl, ap, ◌∙◌}
use mathlib.Core.List.{List}
use Prim.Native.Nat.{ℕ, ◌+◌}
use native.Mathlib.Omega.{arith}
use lib.ListN.{drop}
use lib.Seq.{take-length}
use Rattle.runs.specs.Bytes.{index_of, slice}
use Rattle.sheet.proofs.Forms.{line-fits, name-ends}
use Rattle.sheet.proofs.form.FormAt.name_ends.Goals as goal

pub overflow_add-from : goal.overflow_add-from
overflow_add-from c = omega (arith, line-fits c.args.self.now.sheet.now c.args.self.now.at c.args.self.now.form)

pub find-requires : goal.find-requires
find-requires c = (omega (arith, line-fits c.args.self.now.sheet.now c.args.self.now.at c.args.self.now.form), omega arith)

pub returns : goal.returns
unfolding slice
returns c =
    let s = c.args.self.now.sheet.now in
    let n = c.args.self.now.at + 3 in
    (refl, c.find.ensures.0 ∙ ap (λ (l : List ℕ). n + index_of 0x20 (drop n l)) (take-length s) ∙ name-ends s c.args.self.now.at c.args.self.now.form)
