-- `analysis::prefixes::second_row` meets its contract: what the form leaves is the root, or nothing is added. Assumes nothing.
use Prim.Native.Nat.{ℕ, ◌+◌, ◌-◌, ◌≤◌}
use native.Mathlib.Omega.{arith}
use mathlib.Core.Path.{◌≡◌, sym, ap, ◌∙◌}
use mathlib.Core.List.{List, [], ◌∷◌}
use lib.ListN.{length, take}
use Rattle.strips.proofs.Remainders.{rest-inside}
use Rattle.sheet.specs.Replies.{reply}
use Rattle.ranking.specs.Lists.{plus_all}
use Rattle.paths.specs.Chains.{form_of}
use Rattle.paths.specs.Walk.{root_walk, on_left}
use Rattle.analysis.specs.Places.{between}
use Rattle.paths.specs.Readings.{prefixes_of}
use Rattle.analysis.proofs.Same.{kept_same}
use Rattle.analysis.proofs.Cuts.{asked, none_left, one_left, root_at, between-length}
use Rattle.paths.specs.Visits.{prefix_visits}
use Rattle.analysis.proofs.Visited.{left-none, left_one, prefix_last}
use Rattle.analysis.proofs.prefixes.second_row.Goals as goal
use Rattle.analysis.proofs.prefixes.second_row.Goals.{In-Some}

-- the root begins inside the stem
inside : (c : In-Some) → c.args.behind.now.start + c.in-Some.cut ≤ c.args.behind.now.at.now.end
inside c =
    let n = rest-inside (between c.args.behind.now.at.now.asked.now.word.now c.args.behind.now.start c.args.behind.now.at.now.end) (form_of c.args.second) c.in-Some.cut (sym ((asked c.args.second (between c.args.behind.now.at.now.asked.now.word.now c.args.behind.now.start c.args.behind.now.at.now.end) _ _ c.prefix_rest-rest.ensures (c.prefix_form.ensures ∙ ap form_of c.from.ensures))) ∙ c.in-Some.is) in
    let l : length (between c.args.behind.now.at.now.asked.now.word.now c.args.behind.now.start c.args.behind.now.at.now.end) ≡ c.args.behind.now.at.now.end - c.args.behind.now.start = between-length c.args.behind.now.at.now.asked.now.word.now c.args.behind.now.start c.args.behind.now.at.now.end c.args.behind.now.inside c.args.behind.now.at.now.inside in
    omega (arith, n, c.args.behind.now.inside)

pub overflow_add-start : goal.overflow_add-start
overflow_add-start c = omega (arith, inside (goal.at.overflow_add-start c).In-Some, c.args.behind.now.at.now.inside)

pub root_at-root-requires : goal.root_at-root-requires
root_at-root-requires c = inside (goal.at.root_at-root-requires c).In-Some

pub returns-in-None : goal.returns-in-None
unfolding plus_all
returns-in-None c =
    let a = c.args in (
      sym (ap (λ (l : List (List ℕ)). plus_all a.behind.now.at.now.asked.now.word.now a.kept.now (on_left (root_walk (reply a.behind.now.at.now.asked.now.sheet.now.bytes.now) a.behind.now.at.now.surface a.behind.now.at.now.chain (take a.behind.now.at.now.end a.behind.now.at.now.asked.now.word.now) (a.first ∷ a.second ∷ [])) l))
          (none_left a.behind.now.at.now.asked.now.word.now a.behind.now.start a.behind.now.at.now.end (form_of a.second) (sym c.in-None.is ∙ (asked c.args.second (between c.args.behind.now.at.now.asked.now.word.now c.args.behind.now.start c.args.behind.now.at.now.end) _ _ c.prefix_rest-rest.ensures (c.prefix_form.ensures ∙ ap form_of c.from.ensures))))),
      left-none (prefix_visits 0 (reply a.behind.now.at.now.asked.now.sheet.now.bytes.now)) (between c.args.behind.now.at.now.asked.now.word.now c.args.behind.now.start c.args.behind.now.at.now.end) (form_of a.second) (none_left a.behind.now.at.now.asked.now.word.now a.behind.now.start a.behind.now.at.now.end (form_of a.second) (sym c.in-None.is ∙ (asked c.args.second (between c.args.behind.now.at.now.asked.now.word.now c.args.behind.now.start c.args.behind.now.at.now.end) _ _ c.prefix_rest-rest.ensures (c.prefix_form.ensures ∙ ap form_of c.from.ensures)))),
    )

pub returns-in-Some : goal.returns-in-Some
returns-in-Some c =
    let a = c.args in (
      c.with_root.ensures
          ∙ kept_same a.kept.now (prefixes_of (a.first ∷ a.second ∷ [])) c.root_at-root.ensures.0 c.root_at-root.ensures.1
          ∙ ap (plus_all a.behind.now.at.now.asked.now.word.now a.kept.now) (root_at a.behind.now.at.now.asked.now.word.now (a.behind.now.start + c.in-Some.cut) a.behind.now.at.now.end (reply a.behind.now.at.now.asked.now.sheet.now.bytes.now) a.behind.now.at.now.surface a.behind.now.at.now.chain (a.first ∷ a.second ∷ []) (inside (goal.at.returns-in-Some c).In-Some) c.args.behind.now.at.now.inside)
          ∙ sym (ap (λ (l : List (List ℕ)). plus_all a.behind.now.at.now.asked.now.word.now a.kept.now (on_left (root_walk (reply a.behind.now.at.now.asked.now.sheet.now.bytes.now) a.behind.now.at.now.surface a.behind.now.at.now.chain (take a.behind.now.at.now.end a.behind.now.at.now.asked.now.word.now) (a.first ∷ a.second ∷ [])) l))
          (one_left a.behind.now.at.now.asked.now.word.now a.behind.now.start a.behind.now.at.now.end (form_of a.second) c.in-Some.cut (sym c.in-Some.is ∙ (asked c.args.second (between c.args.behind.now.at.now.asked.now.word.now c.args.behind.now.start c.args.behind.now.at.now.end) _ _ c.prefix_rest-rest.ensures (c.prefix_form.ensures ∙ ap form_of c.from.ensures))))),
      left_one (prefix_visits 0 (reply a.behind.now.at.now.asked.now.sheet.now.bytes.now)) (between c.args.behind.now.at.now.asked.now.word.now c.args.behind.now.start c.args.behind.now.at.now.end) (form_of a.second) _ 1
          (one_left a.behind.now.at.now.asked.now.word.now a.behind.now.start a.behind.now.at.now.end (form_of a.second) c.in-Some.cut (sym c.in-Some.is ∙ (asked c.args.second (between c.args.behind.now.at.now.asked.now.word.now c.args.behind.now.start c.args.behind.now.at.now.end) _ _ c.prefix_rest-rest.ensures (c.prefix_form.ensures ∙ ap form_of c.from.ensures)))) (prefix_last (reply a.behind.now.at.now.asked.now.sheet.now.bytes.now) _),
    )
