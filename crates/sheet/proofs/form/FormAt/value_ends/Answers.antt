-- `form::value_ends` meets its contract: the value ends at the first closing parenthesis. Assumes nothing.
use mathlib.Core.Path.{ap, ◌∙◌}
use mathlib.Core.List.{List}
use Prim.Native.Nat.{ℕ, ◌+◌}
use native.Mathlib.Omega.{arith}
use lib.ListN.{drop}
use lib.Seq.{take-length}
use Rattle.runs.specs.Bytes.{index_of, slice}
use Rattle.sheet.proofs.Forms.{line-fits, value-ends}
use Rattle.sheet.proofs.form.FormAt.value_ends.Goals as goal

pub overflow_add-from : goal.overflow_add-from
overflow_add-from c = omega (arith, line-fits c.args.self.now.sheet.now c.args.self.now.at c.args.self.now.form, c.name_ends-from.ensures.1)

pub find-requires : goal.find-requires
find-requires c = (omega (arith, line-fits c.args.self.now.sheet.now c.args.self.now.at c.args.self.now.form, c.name_ends-from.ensures.1), omega arith)

pub returns : goal.returns
unfolding slice
returns c =
    let s = c.args.self.now.sheet.now in
    let n = c.name_ends-from.result.1 + 2 in
    let e = ap (λ (e : ℕ). e + 2) c.name_ends-from.ensures.1 in (
      e,
      c.find.ensures.0 ∙ ap (λ (l : List ℕ). n + index_of 0x29 (drop n l)) (take-length s)
          ∙ ap (λ (e : ℕ). e + index_of 0x29 (drop e s)) e ∙ value-ends s c.args.self.now.at c.args.self.now.form,
    )
