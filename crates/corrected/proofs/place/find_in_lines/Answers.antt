-- `place::find_in_lines` meets its contract: a single form is looked for by its key. Assumes nothing.
use Rattle.std.specs.Prelude.{Some, None}
use Rattle.std.proofs.lemmas.Result.{err_from_is_err_and}
use Rattle.refusals.specs.declared.Refusal.TheVariants.{NoSingleForm}
use Prim.Native.Nat.{ℕ, ◌+◌}
use native.Mathlib.Omega.{arith}
use mathlib.Core.Path.{◌≡◌, sym, subst, ◌∙◌}
use mathlib.Core.Bool.{true}
use mathlib.Core.List.{List}
use lib.ListN.{length}
use Rattle.sheet.specs.Forms.{entry_of}
use Rattle.corrected.specs.Sets.{is_single}
use Rattle.corrected.specs.Spans.{Spanned}
use Rattle.corrected.proofs.Singles.{other_told, single_told, single_written, single_inside, single_key, single_accepted}
use Rattle.corrected.proofs.place.find_in_lines.Goals as goal
use Rattle.corrected.proofs.place.find_in_lines.Goals.{In_ok-given}

-- what is known of the given line
told : (c : In_ok-given) → let l = c.args.line.now in
    (is_single l ≡ true) × (c.in_ok-given.given.letter ≡ (entry_of l).letter) × (c.in_ok-given.given.name_end ≡ 3 + length (entry_of l).name)
told c =
    let e : c.read_given.result ≡ Some c.in_ok-given.given = grind arith in
    single_told c.args.line.now _ _ (sym e ∙ c.read_given.ensures)

pub slice_bounds-span_of-count : goal.slice_bounds-span_of-count
slice_bounds-span_of-count c = omega (arith, (told (goal.at.slice_bounds-span_of-count c).In_ok-given).2)

pub slice_bounds-span_of-start : goal.slice_bounds-span_of-start
slice_bounds-span_of-start c = omega (arith, (told (goal.at.slice_bounds-span_of-start c).In_ok-given).2)

pub slice_bounds-span_of-end : goal.slice_bounds-span_of-end
slice_bounds-span_of-end c = let t = told (goal.at.slice_bounds-span_of-end c).In_ok-given in single_inside _ _ t.0 t.2

pub returns-in_err-given : goal.returns-in_err-given
returns-in_err-given c =
    let p = err_from_is_err_and c.from_residual.result c.from_residual.ensures.1 in
    let n : c.read_given.result ≡ None = grind arith in
    let f : c.in_err-given.field-0.0 ≡ NoSingleForm = grind arith in
    rw (p.1, p.2, f) (other_told _ (sym n ∙ c.read_given.ensures))

pub returns : goal.returns
returns c =
    let a = c.args in
    let t = told (goal.at.returns c).In_ok-given in
    (single_accepted _ t.0, single_written _ t.0, subst (λ (k : List ℕ). Spanned a.sheet.now.bytes.now k c.span_of.result) (single_key _ _ _ t.0 t.1 t.2) c.span_of.ensures)
