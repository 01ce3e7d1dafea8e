-- `place::span_of` meets its contract: the lines that begin with the name tell how many stand below its key. Assumes nothing.
use Prim.Native.Nat.{ℕ}
use native.Mathlib.Omega.{arith}
use mathlib.Core.Path.{◌≡◌, ap, ◌∙◌}
use mathlib.Core.List.{List, append-nil}
use lib.ListN.{length}
use Rattle.runs.specs.Runs.{cmp}
use Rattle.sheet.specs.Forms.{key, key_of}
use Rattle.sheet.specs.Lines.{line_at}
use Rattle.sheet.specs.Steps.{value_end}
use Rattle.sheet.proofs.Forms.{line-fits, written-length}
use Rattle.corrected.proofs.Spanning.{span-end, span-held, span-other}
use Rattle.corrected.proofs.place.span_of.Goals as goal
use Rattle.corrected.proofs.place.span_of.Goals.{After-order}

-- how the line that was found stands to the key
seen : (c : After-order) → let a = c.args in
    c.order.result ≡ cmp (key (line_at a.sheet.now.bytes.now c.line-line.result.at)) (key_of a.letter a.name.now)
seen c =
    let a = c.args in
    let l = c.line-line.result in
    c.order.ensures ∙ ap (λ (n : List ℕ). cmp (key (line_at l.sheet.now l.at)) (key_of a.letter n)) (append-nil a.name.now)
    ∙ ap (λ (s : List ℕ). cmp (key (line_at s l.at)) (key_of a.letter a.name.now)) c.line-line.ensures.0

pub returns-then-sheet-i : goal.returns-then-sheet-i
returns-then-sheet-i c = let a = c.args in span-end a.sheet.now.bytes.now a.sheet.now.starts.now a.letter a.name.now c.args.sheet.now.indexed c.range_of-i.result c.range_of-i.ensures c.if-sheet-i.true

pub overflow_add-result : goal.overflow_add-result
overflow_add-result c =
    let l = c.line-line.result in
    omega (arith, c.value_ends.ensures.1, line-fits l.sheet.now l.at l.form, ap length c.line-line.ensures.0, c.well_formed)

pub returns-in-Equal : goal.returns-in-Equal
returns-in-Equal c =
    let a = c.args in
    let l = c.line-line.result in
    let e : c.value_ends.result.1 ≡ value_end a.sheet.now.bytes.now l.at = c.value_ends.ensures.1 ∙ ap (λ (s : List ℕ). value_end s l.at) c.line-line.ensures.0 in
    span-held a.sheet.now.bytes.now a.sheet.now.starts.now a.letter a.name.now c.args.sheet.now.indexed _ c.range_of-i.ensures c.if-sheet-i.false l.at c.line-line.ensures.1 _ (seen (goal.at.returns-in-Equal c).After-order) c.in-Equal.is _
    (omega (arith, e, written-length (line_at a.sheet.now.bytes.now l.at)))

pub returns-in_default : goal.returns-in_default
returns-in_default c =
    let a = c.args in
    let l = c.line-line.result in
    span-other a.sheet.now.bytes.now a.sheet.now.starts.now a.letter a.name.now c.args.sheet.now.indexed _ c.range_of-i.ensures c.if-sheet-i.false l.at c.line-line.ensures.1 _ (seen (goal.at.returns-in_default c).After-order) c.in_default.not-Equal
