-- `offers::with_prefix` meets its contract: what all rows offer is what those to come offer to what has been kept. Assumes nothing.
use native.Mathlib.Omega.{arith}
use mathlib.Core.Path.{◌≡◌, sym, ◌∙◌}
use mathlib.Core.List.{[]}
use Prim.Native.Nat.{◌<◌, ◌≤◌}
use lib.ListN.{length, get_or}
use Rattle.tables.specs.Rows.{prefix_forms}
use Rattle.tables.proofs.Facts.{prefix_form_count}
use Rattle.lookup.specs.Lexicons.{replies}
use Rattle.strips.proofs.Remainders.{rest-inside}
use Rattle.decomposition.proofs.Rows.{row_at}
use Rattle.roots.proofs.Offered.{forms-some, forms-none, forms-end}
use Rattle.roots.proofs.offers.with_prefix.Goals as goal
use Rattle.roots.proofs.offers.with_prefix.Goals.{In-loop-k, After-as_bytes}

inside : (c : In-loop-k) → c.loop-k.k < length prefix_forms
inside c = omega (arith, prefix_form_count, c.prefix_rows-rows.ensures.count, c.loop-k-test.true)

form : (c : After-as_bytes) → c.as_bytes.result.now ≡ get_or prefix_forms c.loop-k.k []
form c = c.as_bytes.ensures.value ∙ row_at (λ t. t.1.now) c.prefix_rows-rows.result.now prefix_forms c.loop-k.k _ c.prefix_rows-rows.ensures.forms c.loop-k-test.true

pub invariant_of-behind : goal.invariant_of-behind
invariant_of-behind c = record { inside = rest-inside c.args.asked.now.word.now c.as_bytes.result.now c.in-Some.from (sym c.prefix_rest.ensures ∙ c.in-Some.is) }

pub loop-k-preserved : goal.loop-k-preserved
loop-k-preserved c =
    let a = c.args.asked.now in
    c.loop-k.invariant
    ∙ forms-some 16 (replies a.sheet.now) a.word.now prefix_forms c.loop-k.k c.loop-k.list.items _ c.as_bytes.result.now c.in-Some.from (inside (goal.at.loop-k-preserved c).In-loop-k)
    (form (goal.at.loop-k-preserved c).After-as_bytes) (sym c.in-Some.is ∙ c.prefix_rest.ensures) c.with_front.ensures

pub loop-k-preserved-in_default : goal.loop-k-preserved-in_default
loop-k-preserved-in_default c =
    let a = c.args.asked.now in
    c.loop-k.invariant
    ∙ forms-none 16 (replies a.sheet.now) a.word.now prefix_forms c.loop-k.k c.loop-k.list.items c.as_bytes.result.now (inside (goal.at.loop-k-preserved-in_default c).In-loop-k)
    (form (goal.at.loop-k-preserved-in_default c).After-as_bytes) (sym c.in_default.is ∙ c.prefix_rest.ensures)

pub returns : goal.returns
returns c =
    let a = c.args.asked.now in
    let n : length prefix_forms ≤ c.loop-k.k = omega (arith, prefix_form_count, c.prefix_rows-rows.ensures.count, c.loop-k-test.false) in
    sym (c.loop-k.invariant ∙ forms-end 16 (replies a.sheet.now) a.word.now prefix_forms c.loop-k.k c.loop-k.list.items n)
