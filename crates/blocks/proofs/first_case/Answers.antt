-- `blocks::first_case` meets its contract: word, sheet and rest stand one behind the other. Assumes nothing.
use Rattle.std.proofs.Common.{arith}
use Rattle.std.proofs.lemmas.List.{take_rest}
use Rattle.std.proofs.lemmas.Bool.Decides.{nat_tests}
use Rattle.blocks.proofs.Cut.{cut, cut_end}
use Rattle.blocks.proofs.first_case.Goals as goal

pub returns-then-rest-word_bytes : goal.returns-then-rest-word_bytes
returns-then-rest-word_bytes c = cut_end _ _ (grind (arith, nat_tests)) (rw take_rest)

pub returns : goal.returns
returns c =
    let word = c.decimal-word_bytes.ensures in
    let sheet = c.decimal-sheet_bytes.ensures in
    let front = c.split_at.ensures in
    let back = c.split_at-2.ensures in
    rw (take_rest, back.back, front.back) (cut _ _ _ _ _ _ _ c.min.result word.1 sheet.1 (grind (arith, nat_tests)) (omega arith) (omega arith) front.front (rw front.back at back.front))
