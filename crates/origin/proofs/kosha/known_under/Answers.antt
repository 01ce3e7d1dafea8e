-- `kosha::known_under` meets its contract: the remainders by their lengths, the plain one first. Assumes nothing.
use mathlib.Core.Path.{sym, ◌∙◌}
use lib.Seq.{length-take-le}
use Rattle.lookup.specs.Lexicons.{replies}
use Rattle.strips.proofs.Remainders.{Inside}
use Rattle.origin.proofs.Stems.{under_inside, under_none, under_plain, under_one, under_two}
use Rattle.origin.proofs.kosha.known_under.Goals as goal
use Rattle.origin.proofs.kosha.known_under.Goals.{After-suffix_rests-rests}

-- the remainders lie inside the word
inside : (c : After-suffix_rests-rests) → Inside c.args.word.now c.suffix_rests-rests.result
inside c = under_inside (replies c.args.sheet.now) c.args.word.now c.args.suffix.now c.suffix_rests-rests.result c.suffix_rests-rests.ensures

pub returns-in_err-plain : goal.returns-in_err-plain
returns-in_err-plain c =
    c.from_residual.ensures ∙ under_none (replies c.args.sheet.now) c.args.word.now c.args.suffix.now c.suffix_rests-rests.result c.suffix_rests-rests.ensures c.in_err-plain.was

pub slice_bounds-known_rest-end : goal.slice_bounds-known_rest-end
slice_bounds-known_rest-end c = sym (length-take-le _ _ (rw c.in_ok-plain.was at (inside (goal.at.slice_bounds-known_rest-end c).After-suffix_rests-rests).plain_in))

pub slice_bounds-known_rest-end-2 : goal.slice_bounds-known_rest-end-2
slice_bounds-known_rest-end-2 c =
    sym (length-take-le _ _ (rw c.in_ok-shared.was at (inside (goal.at.slice_bounds-known_rest-end-2 c).After-suffix_rests-rests).shared_in))

pub returns-in-Some : goal.returns-in-Some
returns-in-Some c =
    let a = c.args in
    under_plain (replies a.sheet.now) a.word.now a.suffix.now c.suffix_rests-rests.result c.suffix_rests-rests.ensures _ _ c.in_ok-plain.was (sym c.in-Some.is ∙ c.known_rest.ensures)

pub returns-in_err-shared : goal.returns-in_err-shared
returns-in_err-shared c =
    let a = c.args in
    c.from_residual-in_err-shared.ensures
    ∙ under_one (replies a.sheet.now) a.word.now a.suffix.now c.suffix_rests-rests.result c.suffix_rests-rests.ensures _ c.in_ok-plain.was c.in_err-shared.was (sym c.in_default.is ∙ c.known_rest.ensures)

pub returns : goal.returns
returns c =
    let a = c.args in
    c.known_rest-2.ensures
    ∙ under_two (replies a.sheet.now) a.word.now a.suffix.now c.suffix_rests-rests.result c.suffix_rests-rests.ensures _ _ c.in_ok-plain.was c.in_ok-shared.was (sym c.in_default.is ∙ c.known_rest.ensures)
