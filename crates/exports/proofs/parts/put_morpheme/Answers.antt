-- `parts::put_morpheme` meets its contract. Assumes nothing.
use mathlib.Core.Path.{ap, ◌∙◌}
use mathlib.Core.List.{List, ◌++◌}
use Prim.Native.Nat.{ℕ}
use lib.ListN.{drop}
use Rattle.exports.specs.Filled.{morpheme_bytes}
use Rattle.exports.proofs.Put.{morpheme-bytes, stored_short, stored_long}
use Rattle.exports.proofs.parts.put_morpheme.Goals as goal

pub returns-then-out-lt33 : goal.returns-then-out-lt33
returns-then-out-lt33 c =
    let a = c.args in
    let q = stored_short 0 (morpheme_bytes a.m) a.out.now c.if-out-lt33.true in
    (c.refusal_code.ensures ∙ q.0, q.1)

pub returns : goal.returns
returns c =
    let a = c.args in
    stored_long 0 (morpheme_bytes a.m) a.out.now _ c.if-out-lt33.false (c.put_parts.ensures ∙ ap (λ (l : List ℕ). l ++ drop 33 a.out.now) (morpheme-bytes a.m c.origin_number-origin.ensures.0))
