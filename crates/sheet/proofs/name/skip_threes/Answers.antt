-- `sheet::name::skip_threes` meets its contract: what has been passed are whole characters of the name. Assumes nothing.
use Rattle.std.proofs.Common.{rules, arith}
use Rattle.sheet.proofs.Fronts.{ahead_all, ahead_on, fewer_ahead}
use Rattle.sheet.proofs.name.skip_threes.Goals as goal

pub loop-rest-init : goal.loop-rest-init
loop-rest-init c = ahead_all c.args.t.now

pub loop-rest-smaller : goal.loop-rest-smaller
loop-rest-smaller c = fewer_ahead _ _ c.in-224.len_at_least

pub loop-rest-preserved : goal.loop-rest-preserved
loop-rest-preserved c = ahead_on _ _ c.loop-rest.invariant c.in-224.len_at_least (search rules) (search rules) (search rules) (search rules) (search rules)

pub overflow_sub-result : goal.overflow_sub-result
overflow_sub-result c = omega (arith, c.loop-rest.invariant.within)

pub returns : goal.returns
returns c = c.loop-rest.invariant.passed
