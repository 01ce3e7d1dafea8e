-- `sheet::name::read_name` meets its contract: what is read of the name's bytes, and those to come, are all of them. Assumes nothing.
use native.Mathlib.Omega.{arith}
use mathlib.Core.Path.{◌≡◌, sym, ◌∙◌}
use lib.ListN.{length}
use Rattle.text.specs.Owes.{owed_of}
use Rattle.sheet.proofs.Fronts.{stops_here, stops_end, goes_on_lem, owed_on, read_done, name_told}
use Rattle.sheet.proofs.name.read_name.Goals as goal

pub loop-i-init : goal.loop-i-init
loop-i-init c = let p = c.skip_threes-i.ensures in (p.inside, p.counted, p.owed)

pub returns-then-is_forbidden : goal.returns-then-is_forbidden
returns-then-is_forbidden c =
    let t = c.args.t.now in
    let v = c.loop-i.invariant in
    let z = stops_here t c.loop-i.i c.loop-i-test.true (sym c.is_forbidden.ensures ∙ c.if-is_forbidden.true) in
    c.then_some.ensures ∙ name_told t c.loop-i.i (omega (arith, v.1, z)) (c.named.ensures ∙ read_done t c.loop-i.i (owed_of c.loop-i.state) z v.1 v.2)

pub loop-i-preserved : goal.loop-i-preserved
loop-i-preserved c =
    let t = c.args.t.now in
    let h = c.loop-i-test.true in
    let e = sym c.is_forbidden.ensures ∙ c.if-is_forbidden.false in
    let g = goes_on_lem t c.loop-i.i h e in
    (omega arith, omega arith, c.loop-i.invariant.2 ∙ owed_on t c.loop-i.i _ _ h e c.next-state.ensures)

pub returns : goal.returns
returns c =
    let t = c.args.t.now in
    let v = c.loop-i.invariant in
    let z = stops_end t c.loop-i.i c.loop-i-test.false in
    let n : c.loop-i.i ≡ length t = omega (arith, v.0, c.loop-i-test.false) in
    let d = read_done t c.loop-i.i (owed_of c.loop-i.state) z v.1 v.2 in
    c.then_some-2.ensures ∙ name_told t (length t) (omega (arith, v.1, z)) (c.named-2.ensures ∙ rw n at d)
