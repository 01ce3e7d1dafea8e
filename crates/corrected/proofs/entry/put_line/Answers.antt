-- `entry::put_line` meets its contract: the given line takes the place that was found for it. Assumes nothing.
use Rattle.std.specs.Prelude.{Ok}
use Rattle.std.proofs.lemmas.Result.{err_from_is_err_and}
use mathlib.Core.Logic.{⊎_elim}
use Prim.Native.Nat.{◌≤◌}
use native.Mathlib.Omega.{arith}
use mathlib.Core.Path.{subst}
use lib.ListN.{length, take}
use Rattle.corrected.specs.Answers.{opening_of}
use Rattle.corrected.specs.Spans.{Opens}
use Rattle.corrected.proofs.Answered.{short, inside, put_refused, put-none, put-over, put_done}
use Rattle.corrected.proofs.entry.put_line.Goals as goal
use Rattle.corrected.proofs.entry.put_line.Goals.{In_ok-span}

told : (c : In_ok-span) → let a = c.args in
    Opens (opening_of a.buffer.now a.used a.line.now) (take a.used a.buffer.now) a.line.now (Ok c.in_ok-span.span)
told c =
    let a = c.args in
    subst (Opens (opening_of a.buffer.now a.used a.line.now) (take a.used a.buffer.now) a.line.now) c.in_ok-span.was c.find_line.ensures

within : (c : In_ok-span) → (c.in_ok-span.span.to ≤ c.args.used) × (c.args.used ≤ length c.args.buffer.now)
within c =
    let t = told c in
    (inside _ _ _ t.0 t.1 _ t.2, short _ _ _ t.0 t.1 _ t.2)

pub overflow_add-size : goal.overflow_add-size
overflow_add-size c = omega (arith, (within (goal.at.overflow_add-size c).In_ok-span).0, (within (goal.at.overflow_add-size c).In_ok-span).1, (told (goal.at.overflow_add-size c).In_ok-span).2.ordered, c.well_formed)

pub overflow_sub-size : goal.overflow_sub-size
overflow_sub-size c = omega (arith, (within (goal.at.overflow_sub-size c).In_ok-span).0, (told (goal.at.overflow_sub-size c).In_ok-span).2.ordered)

pub overflow_add-size-2 : goal.overflow_add-size-2
overflow_add-size-2 c = omega (arith, (within (goal.at.overflow_add-size-2 c).In_ok-span).0, (within (goal.at.overflow_add-size-2 c).In_ok-span).1, (told (goal.at.overflow_add-size-2 c).In_ok-span).2.ordered, c.well_formed)

pub returns-then-buffer-size : goal.returns-then-buffer-size
returns-then-buffer-size c =
    let t = told (goal.at.returns-then-buffer-size c).In_ok-span in
    ⊎_elim (λ h. put-none _ _ _ t.0 t.1 _ t.2 h) (λ h. put-over _ _ _ t.0 t.1 _ t.2 h.0 h.1) c.then-buffer-size.either

pub replace-requires : goal.replace-requires
replace-requires c =
    let k = (told (goal.at.replace-requires c).In_ok-span).2.ordered in
    let i = within (goal.at.replace-requires c).In_ok-span in
    (omega (arith, k), omega (arith, k, i.0), i.1, omega (arith, k))

pub returns-in_err-span : goal.returns-in_err-span
returns-in_err-span c =
    let a = c.args in
    let p = err_from_is_err_and c.from_residual.result c.from_residual.ensures.1 in
    rw (p.1, p.2) (put_refused _ _ _ _ (subst (Opens (opening_of a.buffer.now a.used a.line.now) (take a.used a.buffer.now) a.line.now) c.in_err-span.was c.find_line.ensures))

pub returns : goal.returns
returns c =
    let t = told (goal.at.returns c).In_ok-span in
    put_done _ _ _ t.0 t.1 _ t.2 (omega arith) (omega arith) _ c.replace.ensures
