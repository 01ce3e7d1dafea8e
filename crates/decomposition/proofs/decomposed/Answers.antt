-- `decomposed` meets its contract. Assumes nothing.
use mathlib.Core.Path.{ap, ◌∙◌}
use mathlib.Core.List.{List}
use Prim.Native.Nat.{ℕ}
use Rattle.sheet.specs.Replies.{reply}
use Rattle.decomposition.specs.Parts.{parts_at}
use Rattle.decomposition.proofs.Stages.{decomposed_is}
use Rattle.decomposition.proofs.decomposed.Goals as goal

pub returns : goal.returns
returns c =
    let a = c.args in
    let f = c.first_front-front.result in
    let s = c.strip_rows-s.result in
    decomposed_is (reply a.sheet.now.bytes.now) a.word.now f c.least_root-least.result s c.parts_at.result c.first_front-front.ensures.0 c.least_root-least.ensures c.strip_rows-s.ensures.0
    (c.parts_at.ensures ∙ ap (λ (xs : List ℕ). parts_at f s.len xs) c.as_slice.ensures.value)
