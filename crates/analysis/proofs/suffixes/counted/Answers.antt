-- `analysis::suffixes::counted` meets its contract: the product is small. Assumes nothing.
use Prim.Native.Nat.{◌*◌, ◌≤◌}
use native.Mathlib.Nat.{mul-le-mul}
use native.Mathlib.Omega.{arith}
use mathlib.Core.Path.{refl}
use Rattle.analysis.proofs.suffixes.counted.Goals as goal
use Rattle.analysis.proofs.suffixes.counted.Goals.{Start}

small : (c : Start) → c.args.entries * c.args.each ≤ 48
small c = mul-le-mul c.requires.0 c.requires.1

pub overflow_mul-result : goal.overflow_mul-result
overflow_mul-result c = omega (arith, small (goal.at.overflow_mul-result c).Start)

pub returns : goal.returns
returns c = (refl, small (goal.at.returns c).Start)
