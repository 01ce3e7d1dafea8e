-- `rows::put_rows` meets its contract: the rows put so far and those to come are all of them, and those put are short. Assumes nothing.
use native.Mathlib.Omega.{arith}
use mathlib.Core.Path.{◌≡◌, refl, sym, ap, ◌∙◌}
use Prim.Native.Nat.{ℕ, ◌+◌, ◌<◌}
use mathlib.Core.List.{List, ◌∷◌}
use lib.ListN.{length, drop, get_or, drop_of_length-le}
use lib.Seq.{drop-cons}
use native.Mathlib.Numerals.{add-one}
use Rattle.std.proofs.lemmas.List.Sums.{fold-append}
use Rattle.writing.specs.declared.Writer.{Writer}
use Rattle.writing.specs.Writers.{with_byte, with_text}
use Rattle.ranking.specs.declared.Classified.{Classified}
use Rattle.listing.specs.Texts.{row_text, row_texts}
use Rattle.listing.proofs.Room.{rows_turn, rows_end}
use Rattle.listing.proofs.rows.put_rows.Goals as goal

-- the row of a turn, and those behind it
next : (w : List ℕ) (xs : List Classified) (i : ℕ) (d : Classified) → i < length xs → drop i xs ≡ get_or xs i d ∷ drop (i + 1) xs
next w xs i d h = rw add-one (drop-cons xs i d h)

next_row : (v : Writer) (w : List ℕ) (xs : List Classified) (i : ℕ) (d : Classified) → i < length xs
    → with_text v (row_texts w (drop i xs)) ≡ with_text (with_text v (row_text w (get_or xs i d))) (row_texts w (drop (i + 1) xs))
next_row v w xs i d h =
    ap (λ (rs : List Classified). with_text v (row_texts w rs)) (next w xs i d h) ∙ fold-append with_byte v (row_text w (get_or xs i d)) (row_texts w (drop (i + 1) xs))

pub loop-row-init : goal.loop-row-init
loop-row-init c = (refl, λ _. omega arith)

pub loop-row-preserved : goal.loop-row-preserved
loop-row-preserved c =
    let a = c.args in
    let l = c.loop-row in
    let w = a.word.now in
    let put = c.put_row.ensures in (
      ap (λ (v : Writer). with_text v (row_texts w (drop (l.row-index + 1) a.rows.now))) put.0 ∙ sym (next_row l.w w a.rows.now l.row-index _ c.loop-row-test.true) ∙ l.invariant.0,
      λ h. rows_turn w l.row-index _ _ (l.invariant.1 h) _ _ (next w a.rows.now l.row-index _ c.loop-row-test.true) (put.1 h),
    )

pub returns : goal.returns
returns c =
    let a = c.args in
    let e = drop_of_length-le a.rows.now (omega (arith, c.loop-row-test.false)) in (
      ap (λ (rs : List Classified). with_text c.loop-row.w (row_texts a.word.now rs)) (sym e) ∙ c.loop-row.invariant.0,
      λ h. rows_end a.word.now c.loop-row.row-index _ _ (c.loop-row.invariant.1 h) _ (omega arith) e,
    )
