-- `fronts::first_front` meets its contract: no row passed leaves a known word. Assumes nothing.
use native.Mathlib.Omega.{arith}
use mathlib.Core.Path.{◌≡◌, sym, ◌∙◌}
use mathlib.Core.List.{[]}
use Prim.Native.Nat.{◌<◌, ◌≤◌}
use lib.ListN.{length, get_or}
use Rattle.lookup.specs.Lexicons.{replies}
use Rattle.tables.specs.Rows.{prefix_forms}
use Rattle.tables.proofs.Facts.{prefix_form_count}
use Rattle.decomposition.proofs.Leading.{word-inside, front-found, front_next, front-end, front_none}
use Rattle.decomposition.proofs.Rows.{row_at}
use Rattle.decomposition.proofs.fronts.first_front.Goals as goal
use Rattle.decomposition.proofs.fronts.first_front.Goals.{In-loop-k, After-as_bytes}

inside : (c : In-loop-k) → c.loop-k.k < length prefix_forms
inside c = omega (arith, prefix_form_count, c.prefix_rows-rows.ensures.count, c.loop-k-test.true)

form : (c : After-as_bytes) → c.as_bytes.result.now ≡ get_or prefix_forms c.loop-k.k []
form c = c.as_bytes.ensures.value ∙ row_at (λ t. t.1.now) c.prefix_rows-rows.result.now prefix_forms c.loop-k.k _ c.prefix_rows-rows.ensures.forms c.loop-k-test.true

pub returns-in-Some : goal.returns-in-Some
returns-in-Some c =
    let a = c.args in
    let q = sym c.in-Some.is ∙ c.word_rest.ensures in
    let f = form (goal.at.returns-in-Some c).After-as_bytes in
    (sym (c.loop-k.invariant ∙ front-found (replies a.sheet.now) a.word.now prefix_forms c.loop-k.k _ c.in-Some.n (inside (goal.at.returns-in-Some c).In-loop-k) f q), word-inside (replies a.sheet.now) a.word.now _ c.in-Some.n q)

pub loop-k-preserved : goal.loop-k-preserved
loop-k-preserved c =
    let a = c.args in
    c.loop-k.invariant ∙ front_next (replies a.sheet.now) a.word.now prefix_forms c.loop-k.k _ (inside (goal.at.loop-k-preserved c).In-loop-k) (form (goal.at.loop-k-preserved c).After-as_bytes) (sym c.in_default.is ∙ c.word_rest.ensures)

pub returns : goal.returns
returns c =
    let a = c.args in
    let n : length prefix_forms ≤ c.loop-k.k = omega (arith, prefix_form_count, c.prefix_rows-rows.ensures.count, c.loop-k-test.false) in
    let d = c.default.ensures in
    (front_none c.default.result d.0 d.1 ∙ sym (c.loop-k.invariant ∙ front-end (replies a.sheet.now) a.word.now prefix_forms c.loop-k.k n), omega (arith, d.1))
