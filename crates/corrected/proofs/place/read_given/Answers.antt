-- `place::read_given` meets its contract, by what the walk's step tells of a first line. Assumes nothing.
use Rattle.std.specs.Prelude.{Ok, Some}
use Prim.Native.Nat.{ℕ}
use native.Mathlib.Omega.{arith}
use mathlib.Core.Path.{◌≡◌, sym, ap, ◌∙◌}
use Rattle.sheet.specs.declared.line.Form.{Form}
use Rattle.sheet.specs.declared.walk.Walk.{Walk}
use Rattle.corrected.proofs.Singles.{ToldFirst, first-told, none_reached, more_given, single_given}
use Rattle.corrected.proofs.place.read_given.Goals as goal
use Rattle.corrected.proofs.place.read_given.Goals.{In-Ok-Some}

pub returns-in_default : goal.returns-in_default
returns-in_default c =
    none_reached c.args.line.now c.step.result c.step.ensures (λ form e. let i = c.in_default.is in let z : ◌≡◌ {A = ℕ} 0 1 = cc in absurd (omega arith))

pub returns-in_default-2 : goal.returns-in_default-2
returns-in_default-2 c =
    none_reached c.args.line.now c.step.result c.step.ensures (λ form e. let i = c.in_default.is in let z : ◌≡◌ {A = ℕ} 0 1 = cc in absurd (omega arith))

-- what the walk tells of a form
told : (c : In-Ok-Some) → ToldFirst c.args.line.now (Ok (Some c.in-Ok-Some.form))
told c = first-told c.args.line.now (Ok (Some c.in-Ok-Some.form)) (sym (c.in-Ok-Some.is ∙ ap (λ o. Ok o) c.in-Ok-Some.field-0-is) ∙ c.step.ensures)

pub returns-then-form-line : goal.returns-then-form-line
returns-then-form-line c =
    let t = told (goal.at.returns-then-form-line c).In-Ok-Some in
    more_given _ t.0 _ (ap (λ (r : Form Walk). r.next.at) t.1) c.if-form-line.true

pub returns : goal.returns
returns c =
    let t = told (goal.at.returns c).In-Ok-Some in
    single_given _ t.0 _ _ _ (ap (λ (r : Form Walk). r.letter) t.1) (ap (λ (r : Form Walk). r.name_end) t.1) (ap (λ (r : Form Walk). r.next.at) t.1) c.if-form-line.false
