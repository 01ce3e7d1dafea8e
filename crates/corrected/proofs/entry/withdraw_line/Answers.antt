-- `entry::withdraw_line` meets its contract: the bytes of the line that was found are closed up. Assumes nothing.
use Rattle.std.specs.Prelude.{Ok}
use Rattle.std.proofs.lemmas.Result.{err_from_is_err_and}
use Prim.Native.Nat.{◌≤◌}
use native.Mathlib.Omega.{arith}
use mathlib.Core.Path.{subst}
use lib.ListN.{length, take}
use Rattle.corrected.specs.Answers.{opening_of}
use Rattle.corrected.specs.Spans.{Opens}
use Rattle.corrected.proofs.Answered.{short, inside, withdraw_refused, withdraw_none, withdraw_done}
use Rattle.corrected.proofs.entry.withdraw_line.Goals as goal
use Rattle.corrected.proofs.entry.withdraw_line.Goals.{In_ok-span}

told : (c : In_ok-span) → let a = c.args in
    Opens (opening_of a.buffer.now a.used a.line.now) (take a.used a.buffer.now) a.line.now (Ok c.in_ok-span.span)
told c =
    let a = c.args in
    subst (Opens (opening_of a.buffer.now a.used a.line.now) (take a.used a.buffer.now) a.line.now) c.in_ok-span.was c.find_line.ensures

within : (c : In_ok-span) → (c.in_ok-span.span.to ≤ c.args.used) × (c.args.used ≤ length c.args.buffer.now)
within c =
    let t = told c in
    (inside _ _ _ t.0 t.1 _ t.2, short _ _ _ t.0 t.1 _ t.2)

pub returns-then-span : goal.returns-then-span
returns-then-span c = let t = told (goal.at.returns-then-span c).In_ok-span in withdraw_none _ _ _ t.0 t.1 _ t.2 (omega (arith, c.if-span.true))

pub replace-requires : goal.replace-requires
replace-requires c =
    let k = (told (goal.at.replace-requires c).In_ok-span).2.ordered in
    let i = within (goal.at.replace-requires c).In_ok-span in
    (omega (arith, k), omega (arith, k, i.0), i.1, omega (arith, k, i.0, i.1))

pub overflow_sub-result : goal.overflow_sub-result
overflow_sub-result c = (within (goal.at.overflow_sub-result c).In_ok-span).0

pub returns-in_err-span : goal.returns-in_err-span
returns-in_err-span c =
    let a = c.args in
    let p = err_from_is_err_and c.from_residual.result c.from_residual.ensures.1 in
    rw (p.1, p.2) (withdraw_refused _ _ _ _ (subst (Opens (opening_of a.buffer.now a.used a.line.now) (take a.used a.buffer.now) a.line.now) c.in_err-span.was c.find_line.ensures))

pub returns : goal.returns
returns c =
    let t = told (goal.at.returns c).In_ok-span in
    withdraw_done _ _ _ t.0 t.1 _ t.2 (omega (arith, c.if-span.false)) _ c.replace.ensures
