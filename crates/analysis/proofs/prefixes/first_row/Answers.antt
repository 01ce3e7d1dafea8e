-- `analysis::prefixes::first_row` meets its contract: nothing is left, or the root's reading and those of a second prefix are added. Assumes nothing.
use Prim.Native.Nat.{ℕ, ◌≤◌}
use native.Mathlib.Omega.{arith}
use mathlib.Core.Path.{◌≡◌, sym, ap, ◌∙◌}
use mathlib.Core.List.{List, [], ◌∷◌}
use lib.ListN.{length, take}
use lib.Seq.{length-take-le}
use Rattle.strips.specs.Prefix.{prefix_remainder}
use Rattle.strips.proofs.Remainders.{rest-inside}
use Rattle.sheet.specs.Replies.{reply}
use Rattle.ranking.specs.Lists.{Rows, plus_all}
use Rattle.paths.specs.Chains.{all_forms, form_of}
use Rattle.paths.specs.Walk.{root_walk, on_left, second_walk}
use Rattle.paths.specs.Readings.{prefixes_of}
use Rattle.analysis.specs.Places.{between, root_found}
use Rattle.progressive.specs.Progressive.{is_progressive}
use Rattle.analysis.proofs.Same.{kept_same, told_same, forms_same, visits_same}
use Rattle.analysis.proofs.Cuts.{asked, front-none, front-left, root_at}
use Rattle.analysis.proofs.Turns.{second_none, second_bare, second_some}
use Rattle.analysis.proofs.Opened.{no-forms}
use Rattle.paths.specs.Visits.{total, prefix_visits}
use Rattle.analysis.proofs.Visited.{left-none, left_one, prefix_none, prefix_bare, prefix_some, second_few}
use Rattle.analysis.proofs.prefixes.first_row.Goals as goal
use Rattle.analysis.proofs.prefixes.first_row.Goals.{After-with_root, In-Some}

pub slice_bounds-prefix_rest-end : goal.slice_bounds-prefix_rest-end
slice_bounds-prefix_rest-end c = sym (length-take-le c.args.at.now.end c.args.at.now.asked.now.word.now c.args.at.now.inside)

-- the root begins inside the stem
inside : (c : In-Some) → c.in-Some.start ≤ c.args.at.now.end
inside c =
    let n = rest-inside (take c.args.at.now.end c.args.at.now.asked.now.word.now) (form_of c.args.first) c.in-Some.start (sym ((asked c.args.first (take c.args.at.now.end c.args.at.now.asked.now.word.now) _ _ c.prefix_rest-rest.ensures (c.prefix_form.ensures ∙ ap form_of c.from.ensures))) ∙ c.in-Some.is) in
    let l : length (take c.args.at.now.end c.args.at.now.asked.now.word.now) ≡ c.args.at.now.end = length-take-le c.args.at.now.end c.args.at.now.asked.now.word.now c.args.at.now.inside in
    omega (arith, n)

pub root_at-root-requires : goal.root_at-root-requires
root_at-root-requires c = inside (goal.at.root_at-root-requires c).In-Some

pub returns-in-None : goal.returns-in-None
unfolding plus_all
returns-in-None c =
    let a = c.args in (
      sym (ap (λ (l : List (List ℕ)). plus_all a.at.now.asked.now.word.now a.kept.now (on_left (second_walk (reply a.at.now.asked.now.sheet.now.bytes.now) a.at.now.surface a.at.now.chain (take a.at.now.end a.at.now.asked.now.word.now) a.first) l))
          (front-none a.at.now.asked.now.word.now a.at.now.end (form_of a.first) (sym c.in-None.is ∙ (asked c.args.first (take c.args.at.now.end c.args.at.now.asked.now.word.now) _ _ c.prefix_rest-rest.ensures (c.prefix_form.ensures ∙ ap form_of c.from.ensures))))),
      left-none (prefix_visits 1 (reply a.at.now.asked.now.sheet.now.bytes.now)) (take c.args.at.now.end c.args.at.now.asked.now.word.now) (form_of a.first) (front-none a.at.now.asked.now.word.now a.at.now.end (form_of a.first) (sym c.in-None.is ∙ (asked c.args.first (take c.args.at.now.end c.args.at.now.asked.now.word.now) _ _ c.prefix_rest-rest.ensures (c.prefix_form.ensures ∙ ap form_of c.from.ensures)))),
    )

-- the prefix's own reading is kept, and the rest of the walk begins at what it leaves
module _ (c : After-with_root) where
  abbrev rest : List ℕ
  rest = between c.args.at.now.asked.now.word.now c.in-Some.start c.args.at.now.end

  own : {x : Rows} → c.in-Some.start ≤ c.args.at.now.end → (let r = c.root_at-root.result in x ≡ plus_all r.at.now.asked.now.word.now c.args.kept.now (root_found (reply r.at.now.asked.now.sheet.now.bytes.now) r.at.now.surface r.at.now.chain r.at.now.asked.now.word.now r.at.now.end r.start (prefixes_of (c.args.first ∷ []))))
      → let a = c.args in x ≡ plus_all a.at.now.asked.now.word.now a.kept.now (root_walk (reply a.at.now.asked.now.sheet.now.bytes.now) a.at.now.surface a.at.now.chain (take a.at.now.end a.at.now.asked.now.word.now) (a.first ∷ []) rest)
  own i e =
      let a = c.args in
      e ∙ kept_same a.kept.now (prefixes_of (a.first ∷ [])) c.root_at-root.ensures.0 c.root_at-root.ensures.1
      ∙ ap (plus_all a.at.now.asked.now.word.now a.kept.now) (root_at a.at.now.asked.now.word.now c.in-Some.start a.at.now.end (reply a.at.now.asked.now.sheet.now.bytes.now) a.at.now.surface a.at.now.chain (a.first ∷ []) i a.at.now.inside)

  -- whether it is a progressive form
  told : c.root_at-root.result.progressive ≡ is_progressive (reply c.args.at.now.asked.now.sheet.now.bytes.now) rest
  told = c.root_at-root.result.told ∙ told_same c.root_at-root.ensures.0 c.root_at-root.ensures.1

  -- what is said of what the prefix leaves is said of the row
  whole : {x : Rows} → (let a = c.args in x ≡ plus_all a.at.now.asked.now.word.now a.kept.now (second_walk (reply a.at.now.asked.now.sheet.now.bytes.now) a.at.now.surface a.at.now.chain (take a.at.now.end a.at.now.asked.now.word.now) a.first rest))
      → let a = c.args in x ≡ plus_all a.at.now.asked.now.word.now a.kept.now (on_left (second_walk (reply a.at.now.asked.now.sheet.now.bytes.now) a.at.now.surface a.at.now.chain (take a.at.now.end a.at.now.asked.now.word.now) a.first) (prefix_remainder (take a.at.now.end a.at.now.asked.now.word.now) (form_of a.first)))
  whole e =
      let a = c.args in
      e ∙ sym (ap (λ (l : List (List ℕ)). plus_all a.at.now.asked.now.word.now a.kept.now (on_left (second_walk (reply a.at.now.asked.now.sheet.now.bytes.now) a.at.now.surface a.at.now.chain (take a.at.now.end a.at.now.asked.now.word.now) a.first) l))
      (front-left a.at.now.asked.now.word.now a.at.now.end (form_of a.first) c.in-Some.start (sym c.in-Some.is ∙ (asked c.args.first (take c.args.at.now.end c.args.at.now.asked.now.word.now) _ _ c.prefix_rest-rest.ensures (c.prefix_form.ensures ∙ ap form_of c.from.ensures)))))

  -- and so is what is counted there
  counted : {v : ℕ} → v ≡ prefix_visits 1 (reply c.args.at.now.asked.now.sheet.now.bytes.now) rest
      → let a = c.args in v ≡ total (prefix_visits 1 (reply a.at.now.asked.now.sheet.now.bytes.now)) (prefix_remainder (take a.at.now.end a.at.now.asked.now.word.now) (form_of a.first))
  counted {v} e =
      let a = c.args in
      left_one (prefix_visits 1 (reply a.at.now.asked.now.sheet.now.bytes.now)) (take a.at.now.end a.at.now.asked.now.word.now) (form_of a.first) rest v
      (front-left a.at.now.asked.now.word.now a.at.now.end (form_of a.first) c.in-Some.start (sym c.in-Some.is ∙ (asked c.args.first (take c.args.at.now.end c.args.at.now.asked.now.word.now) _ _ c.prefix_rest-rest.ensures (c.prefix_form.ensures ∙ ap form_of c.from.ensures)))) e

pub returns-then-root : goal.returns-then-root
returns-then-root c =
    let a = c.args in (
      whole (goal.at.returns-then-root c).After-with_root (second_none (reply a.at.now.asked.now.sheet.now.bytes.now) a.at.now.surface a.at.now.chain a.at.now.asked.now.word.now (take a.at.now.end a.at.now.asked.now.word.now) a.first (rest (goal.at.returns-then-root c).After-with_root) _ _ (own (goal.at.returns-then-root c).After-with_root (inside (goal.at.returns-then-root c).In-Some) c.with_root.ensures)
          (sym (told (goal.at.returns-then-root c).After-with_root) ∙ c.if-root.true)),
      counted (goal.at.returns-then-root c).After-with_root (prefix_none 0 (reply a.at.now.asked.now.sheet.now.bytes.now) (rest (goal.at.returns-then-root c).After-with_root) (sym (told (goal.at.returns-then-root c).After-with_root) ∙ c.if-root.true)),
    )

pub slice_bounds-may_begin-count : goal.slice_bounds-may_begin-count
slice_bounds-may_begin-count c = inside (goal.at.slice_bounds-may_begin-count c).In-Some

pub slice_bounds-may_begin-start : goal.slice_bounds-may_begin-start
slice_bounds-may_begin-start c = omega (arith, inside (goal.at.slice_bounds-may_begin-start c).In-Some, c.args.at.now.inside)

pub returns-then-not-may_begin : goal.returns-then-not-may_begin
returns-then-not-may_begin c =
    let a = c.args in (
      whole (goal.at.returns-then-not-may_begin c).After-with_root (second_bare (reply a.at.now.asked.now.sheet.now.bytes.now) a.at.now.surface a.at.now.chain a.at.now.asked.now.word.now (take a.at.now.end a.at.now.asked.now.word.now) a.first (rest (goal.at.returns-then-not-may_begin c).After-with_root) _ _ (own (goal.at.returns-then-not-may_begin c).After-with_root (inside (goal.at.returns-then-not-may_begin c).In-Some) c.with_root.ensures)
          (sym (told (goal.at.returns-then-not-may_begin c).After-with_root) ∙ c.if-root.false)
          (λ f. no-forms f (rest (goal.at.returns-then-not-may_begin c).After-with_root) (sym c.may_begin.ensures ∙ c.if-not-may_begin.true) 0 all_forms (omega arith))),
      counted (goal.at.returns-then-not-may_begin c).After-with_root (prefix_bare 0 (reply a.at.now.asked.now.sheet.now.bytes.now) (rest (goal.at.returns-then-not-may_begin c).After-with_root) (sym c.may_begin.ensures ∙ c.if-not-may_begin.true)),
    )

pub overflow_add-result : goal.overflow_add-result
overflow_add-result c =
    omega (arith, c.second_rows.ensures.1 ∙ visits_same c.root_at-root.ensures.0 c.root_at-root.ensures.1, second_few (reply c.args.at.now.asked.now.sheet.now.bytes.now) (rest (goal.at.overflow_add-result c).After-with_root))

pub returns-else-not-may_begin : goal.returns-else-not-may_begin
returns-else-not-may_begin c =
    let a = c.args in (
      whole (goal.at.returns-else-not-may_begin c).After-with_root (second_some (reply a.at.now.asked.now.sheet.now.bytes.now) a.at.now.surface a.at.now.chain a.at.now.asked.now.word.now (take a.at.now.end a.at.now.asked.now.word.now) a.first (rest (goal.at.returns-else-not-may_begin c).After-with_root) _ _ (own (goal.at.returns-else-not-may_begin c).After-with_root (inside (goal.at.returns-else-not-may_begin c).In-Some) c.with_root.ensures) _
          (sym (told (goal.at.returns-else-not-may_begin c).After-with_root) ∙ c.if-root.false) (c.second_rows.ensures.0 ∙ forms_same _ a.first c.root_at-root.ensures.0 c.root_at-root.ensures.1)),
      counted (goal.at.returns-else-not-may_begin c).After-with_root (prefix_some 0 (reply a.at.now.asked.now.sheet.now.bytes.now) (rest (goal.at.returns-else-not-may_begin c).After-with_root) _ (sym (told (goal.at.returns-else-not-may_begin c).After-with_root) ∙ c.if-root.false) (c.second_rows.ensures.1 ∙ visits_same c.root_at-root.ensures.0 c.root_at-root.ensures.1)),
    )
