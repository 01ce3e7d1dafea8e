-- `keys::along` meets its contract: what is left of the name stands to what is left of the head as the name does to the head.
-- Assumes nothing.
use mathlib.Core.Path.{sym, ap, ◌∙◌}
use mathlib.Core.List.{List}
use native.Mathlib.Numerals.{add-one}
use native.Mathlib.Omega.{arith}
use Prim.Native.Nat.{ℕ, suc}
use lib.ListN.{drop}
use Rattle.std.proofs.lemmas.List.{take_rest}
use Rattle.sheet.specs.Keys.{spaced, headed}
use Rattle.sheet.proofs.Spaced.{spaced-past, spaced-none, spaced-cons, head_ended, head_differs, head_same}
use Rattle.sheet.proofs.keys.along.Goals as goal

pub returns-in_default : goal.returns-in_default
returns-in_default c =
    let l = c.loop-y in
    sym (l.invariant ∙ head_ended _ c.args.p.now l.y-index (omega arith) (spaced-past l.name.now 0 (omega (arith, c.in_default.len_below))))

pub returns-then-b-eq32 : goal.returns-then-b-eq32
returns-then-b-eq32 c =
    let l = c.loop-y in
    sym (l.invariant ∙ head_ended _ c.args.p.now l.y-index (omega arith) (spaced-none l.name.now 0 (omega (arith, c.in-len1-up.len_at_least)) c.if-b-eq32.true))

pub returns-then-b-y : goal.returns-then-b-y
returns-then-b-y c =
    let l = c.loop-y in
    c.cmp.ensures
    ∙ sym (l.invariant ∙ head_differs _ c.args.p.now l.y-index _ _ (omega arith) (spaced-cons l.name.now 0 (omega (arith, c.in-len1-up.len_at_least)) c.if-b-eq32.false) c.if-b-y.true)

pub loop-y-preserved : goal.loop-y-preserved
loop-y-preserved c =
    let l = c.loop-y in
    let p = c.args.p.now in
    let h = head_same _ p l.y-index _ _ (omega arith) (spaced-cons l.name.now 0 (omega (arith, c.in-len1-up.len_at_least)) c.if-b-eq32.false) c.if-b-y.false in
    l.invariant ∙ h ∙ ap (λ (n : List ℕ). headed (spaced n) (drop (suc l.y-index) p)) (sym (take_rest l.name.now 1)) ∙ rw add-one
