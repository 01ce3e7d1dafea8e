-- `walk::Walk::step` meets its contract: the line at the place, and its order to the last. Assumes nothing.
use Rattle.std.specs.Prelude.{Some, None, Ok}
use Rattle.std.proofs.lemmas.Result.{err_from_is_err_and}
use Prim.Native.Nat.{ℕ, ◌+◌, ◌≤◌}
use native.Mathlib.Omega.{arith}
use mathlib.Core.Path.{◌≡◌, sym, ap, ◌∙◌}
use mathlib.Core.List.{List}
use lib.ListN.{length}
use Rattle.runs.specs.Runs.{cmp, is_less}
use Rattle.sheet.specs.Forms.{key}
use Rattle.sheet.specs.Lines.{line_at}
use Rattle.sheet.specs.Steps.{name_end}
use Rattle.sheet.specs.declared.line.Cursor.{Cursor}
use Rattle.sheet.specs.declared.line.Form.{Form}
use Rattle.sheet.specs.Walks.{key_before}
use Rattle.sheet.proofs.Forms.{line-fits}
use Rattle.sheet.proofs.Lines.{Told, step_told}
use Rattle.sheet.proofs.Walks.{reached-end, reached_fault, reached-not-above, reached-form, goes_on, key-told}
use Rattle.sheet.proofs.walk.Walk.step.Goals as goal
use Rattle.sheet.proofs.walk.Walk.step.Goals.{In-Some, After-is_above}

pub returns-in_err-form : goal.returns-in_err-form
returns-in_err-form c =
    let p = err_from_is_err_and c.from_residual.result c.from_residual.ensures.1 in
    rw (p.1, p.2) (reached_fault c.args.s.now c.args.self _ (sym c.in_err-form.was ∙ c.step.ensures))

pub returns-in_default : goal.returns-in_default
returns-in_default c =
    reached-end c.args.s.now c.args.self
    (step_told c.args.s.now c.args.self.at (Ok None) (sym (c.in_ok-form.was ∙ ap (λ o. Ok o) c.in_default.is) ∙ c.step.ensures))

-- what the reader tells of a form
told : (c : In-Some) → Told c.args.s.now c.args.self.at (Ok (Some c.in-Some.form))
told c = step_told c.args.s.now c.args.self.at _ (sym (c.in_ok-form.was ∙ ap (λ o. Ok o) c.in-Some.is) ∙ c.step.ensures)

-- where its name ends, and that its bytes lie inside the sheet
ended : (c : In-Some) → let a = c.args in (c.in-Some.form.name_end ≡ name_end a.s.now a.self.at) × (c.in-Some.form.name_end ≤ length a.s.now) × (a.self.at + 3 ≤ c.in-Some.form.name_end)
ended c =
    let a = c.args in
    let e : c.in-Some.form.name_end ≡ name_end a.s.now a.self.at = ap (λ (r : Form Cursor). r.name_end) (told c).2 in
    (e, omega (arith, line-fits a.s.now a.self.at (told c).1), omega arith)

pub overflow_add-from : goal.overflow_add-from
overflow_add-from c = let e = ended (goal.at.overflow_add-from c).In-Some in omega (arith, e.1, e.2, c.well_formed)

pub slice_bounds-is_above-count : goal.slice_bounds-is_above-count
slice_bounds-is_above-count c = (ended (goal.at.slice_bounds-is_above-count c).In-Some).2

pub slice_bounds-is_above-start : goal.slice_bounds-is_above-start
slice_bounds-is_above-start c = (ended (goal.at.slice_bounds-is_above-start c).In-Some).2

pub slice_bounds-is_above-end : goal.slice_bounds-is_above-end
slice_bounds-is_above-end c = (ended (goal.at.slice_bounds-is_above-end c).In-Some).1

-- whether the line is above the last
above : (c : After-is_above) → let a = c.args in
    Told a.s.now a.self.at (Ok (Some c.in-Some.form)) → c.is_above.result ≡ is_less (cmp (key_before a.s.now a.self.last) (key (line_at a.s.now a.self.at)))
above c t =
    let a = c.args in
    let l = ap (λ (r : Form Cursor). r.letter) t.2 in
    let e = ap (λ (r : Form Cursor). r.name_end) t.2 in
    c.is_above.ensures
    ∙ ap (λ (k : List ℕ). is_less (cmp (key_before a.s.now a.self.last) k)) (key-told a.s.now a.self.at t.1 _ _ l e)

pub returns-then-not-is_above : goal.returns-then-not-is_above
returns-then-not-is_above c =
    let t = told (goal.at.returns-then-not-is_above c).In-Some in
    reached-not-above c.args.s.now c.args.self t.0 t.1 (sym (above (goal.at.returns-then-not-is_above c).After-is_above t) ∙ c.if-not-is_above.true)

pub returns : goal.returns
returns c =
    let s = c.args.s.now in
    let t = told (goal.at.returns c).In-Some in
    ap (λ r. Ok (Some r)) (goes_on s c.args.self c.in-Some.form t.2)
    ∙ reached-form s c.args.self t.0 t.1 (sym (above (goal.at.returns c).After-is_above t) ∙ c.if-not-is_above.false)
