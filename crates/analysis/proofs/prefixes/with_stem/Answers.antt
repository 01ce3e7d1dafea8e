-- `analysis::prefixes::with_stem` meets its contract: the stem's own reading, and those of its prefixes. Assumes nothing.
use native.Mathlib.Omega.{arith}
use mathlib.Core.Path.{◌≡◌, sym, ap, ◌∙◌}
use mathlib.Core.List.{[]}
use lib.ListN.{take}
use lib.Seq.{length-take-le}
use Rattle.paths.specs.Chains.{all_forms}
use Rattle.sheet.specs.Replies.{reply}
use Rattle.progressive.specs.Progressive.{is_progressive}
use Rattle.ranking.specs.Lists.{Rows, plus_all}
use Rattle.paths.specs.declared.Prefixes.{Prefixes}
use Rattle.analysis.proofs.Visited.{prefix_none, prefix_bare, prefix_some, first-few}
use Rattle.paths.specs.Walk.{root_walk}
use Rattle.analysis.specs.Places.{root_found}
use Rattle.analysis.proofs.Same.{none_stripped}
use Rattle.analysis.proofs.Cuts.{root_at, whole-front}
use Rattle.analysis.proofs.Turns.{stem-none, stem-bare, stem-some}
use Rattle.analysis.proofs.Opened.{no-forms}
use Rattle.analysis.proofs.prefixes.with_stem.Goals as goal
use Rattle.analysis.proofs.prefixes.with_stem.Goals.{After-with_root}

pub invariant_of-whole : goal.invariant_of-whole
invariant_of-whole c = record {
  inside = omega arith;
  told = c.args.at.now.told ∙ ap (is_progressive (reply c.args.at.now.asked.now.sheet.now.bytes.now)) (sym (whole-front c.args.at.now.asked.now.word.now c.args.at.now.end));
}

-- the stem's own reading is kept
own : (c : After-with_root) {x : Rows}
    → (let a = c.args in x ≡ plus_all a.at.now.asked.now.word.now a.kept.now (root_found (reply a.at.now.asked.now.sheet.now.bytes.now) a.at.now.surface a.at.now.chain a.at.now.asked.now.word.now a.at.now.end 0 c.default.result))
    → let a = c.args in x ≡ plus_all a.at.now.asked.now.word.now a.kept.now (root_walk (reply a.at.now.asked.now.sheet.now.bytes.now) a.at.now.surface a.at.now.chain (take a.at.now.end a.at.now.asked.now.word.now) [] (take a.at.now.end a.at.now.asked.now.word.now))
own c e =
    e
    ∙ ap (λ (x : Prefixes). plus_all c.args.at.now.asked.now.word.now c.args.kept.now (root_found (reply c.args.at.now.asked.now.sheet.now.bytes.now) c.args.at.now.surface c.args.at.now.chain c.args.at.now.asked.now.word.now c.args.at.now.end 0 x)) (none_stripped c.default.result c.default.ensures)
    ∙ ap (plus_all c.args.at.now.asked.now.word.now c.args.kept.now)
    (root_at c.args.at.now.asked.now.word.now 0 c.args.at.now.end (reply c.args.at.now.asked.now.sheet.now.bytes.now) c.args.at.now.surface c.args.at.now.chain [] (omega arith) c.args.at.now.inside
    ∙ ap (root_walk (reply c.args.at.now.asked.now.sheet.now.bytes.now) c.args.at.now.surface c.args.at.now.chain (take c.args.at.now.end c.args.at.now.asked.now.word.now) []) (whole-front c.args.at.now.asked.now.word.now c.args.at.now.end))

pub returns-then-at : goal.returns-then-at
returns-then-at c =
    (stem-none (reply c.args.at.now.asked.now.sheet.now.bytes.now) c.args.at.now.surface c.args.at.now.chain c.args.at.now.asked.now.word.now (take c.args.at.now.end c.args.at.now.asked.now.word.now) _ _ (own (goal.at.returns-then-at c).After-with_root c.with_root.ensures) (sym c.args.at.now.told ∙ c.if-at.true), prefix_none 1 (reply c.args.at.now.asked.now.sheet.now.bytes.now) (take c.args.at.now.end c.args.at.now.asked.now.word.now) (sym c.args.at.now.told ∙ c.if-at.true))

pub slice_bounds-may_begin-end : goal.slice_bounds-may_begin-end
slice_bounds-may_begin-end c = sym (length-take-le c.args.at.now.end c.args.at.now.asked.now.word.now c.args.at.now.inside)

pub returns-then-not-may_begin : goal.returns-then-not-may_begin
returns-then-not-may_begin c = (
  stem-bare (reply c.args.at.now.asked.now.sheet.now.bytes.now) c.args.at.now.surface c.args.at.now.chain c.args.at.now.asked.now.word.now (take c.args.at.now.end c.args.at.now.asked.now.word.now) _ _ (own (goal.at.returns-then-not-may_begin c).After-with_root c.with_root.ensures) (sym c.args.at.now.told ∙ c.if-at.false)
      (λ f. no-forms f (take c.args.at.now.end c.args.at.now.asked.now.word.now) (sym c.may_begin.ensures ∙ c.if-not-may_begin.true) 0 all_forms (omega arith)),
  prefix_bare 1 (reply c.args.at.now.asked.now.sheet.now.bytes.now) (take c.args.at.now.end c.args.at.now.asked.now.word.now) (sym c.may_begin.ensures ∙ c.if-not-may_begin.true),
)

pub overflow_add-result : goal.overflow_add-result
overflow_add-result c =
    omega (arith, c.first_rows.ensures.1, first-few (reply c.args.at.now.asked.now.sheet.now.bytes.now) (take c.args.at.now.end c.args.at.now.asked.now.word.now))

pub returns : goal.returns
returns c =
    (stem-some (reply c.args.at.now.asked.now.sheet.now.bytes.now) c.args.at.now.surface c.args.at.now.chain c.args.at.now.asked.now.word.now (take c.args.at.now.end c.args.at.now.asked.now.word.now) _ _ (own (goal.at.returns c).After-with_root c.with_root.ensures) _ (sym c.args.at.now.told ∙ c.if-at.false) c.first_rows.ensures.0, prefix_some 1 (reply c.args.at.now.asked.now.sheet.now.bytes.now) (take c.args.at.now.end c.args.at.now.asked.now.word.now) _ (sym c.args.at.now.told ∙ c.if-at.false) c.first_rows.ensures.1)
