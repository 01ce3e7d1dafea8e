-- `kosha::known_stem` meets its contract: nothing is known under the suffixes passed, and a word that can end in none has no remainder.
-- Assumes nothing.
use Rattle.std.proofs.Common.{◌≡◌, ◌+◌, ◌∙◌, sym, ap, refl, [], get_or, drop, arith}
use Rattle.std.proofs.lemmas.Grind.{common_steps}
use Rattle.tables.specs.Rows.{strip_suffixes}
use Rattle.tables.proofs.Facts.{strip_suffix_count}
use Rattle.sheet.specs.Replies.{reply}
use Rattle.std.specs.Option.{option_or}
use Rattle.std.specs.Prelude.{Option}
use Rattle.origin.specs.Decisions.{first_known, known_under, known_stem}
use Rattle.origin.specs.declared.kosha.Known.{Known}
use Rattle.origin.proofs.Stems.{first_at}
use Rattle.origin.proofs.Ruled.{no-stem}
use Rattle.origin.proofs.kosha.known_stem.Goals as goal
use Rattle.origin.proofs.kosha.known_stem.Goals.{After-known_under}

pub returns-then-not-may_strip : goal.returns-then-not-may_strip
returns-then-not-may_strip c = no-stem _ _ (sym c.may_strip.ensures ∙ c.if-not-may_strip.true)

pub loop-suffix-init : goal.loop-suffix-init
unfolding known_stem
loop-suffix-init c = refl

-- what is known under the suffix of this turn, and what under those after it
turn : (c : After-known_under) → let ask = reply c.args.sheet.now.bytes.now in
    known_stem ask c.args.word.now ≡ option_or c.known_under.result (first_known (known_under ask c.args.word.now) (drop (c.loop-suffix.suffix-index + 1) strip_suffixes))
turn c =
    let look = known_under (reply c.args.sheet.now.bytes.now) c.args.word.now in
    let row : c.as_bytes.result.now ≡ get_or strip_suffixes c.loop-suffix.suffix-index [] = grind (arith, common_steps) in
    c.loop-suffix.invariant
    ∙ first_at look strip_suffixes c.loop-suffix.suffix-index _ (rw strip_suffix_count (omega arith)) (c.known_under.ensures ∙ ap look row)

pub returns-in-Some : goal.returns-in-Some
returns-in-Some c =
    let t = turn (goal.at.returns-in-Some c).After-known_under in
    sym (t ∙ ap (λ (x : Option Known). option_or x (first_known (known_under (reply c.args.sheet.now.bytes.now) c.args.word.now) (drop (c.loop-suffix.suffix-index + 1) strip_suffixes))) c.in-Some.is)

pub loop-suffix-preserved : goal.loop-suffix-preserved
loop-suffix-preserved c =
    turn (goal.at.loop-suffix-preserved c).After-known_under
    ∙ ap (λ (x : Option Known). option_or x (first_known (known_under (reply c.args.sheet.now.bytes.now) c.args.word.now) (drop (c.loop-suffix.suffix-index + 1) strip_suffixes))) c.in_default.is
