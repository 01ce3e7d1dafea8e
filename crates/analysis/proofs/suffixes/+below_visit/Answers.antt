-- `suffixes::visit` and `below`, which call each other, meet their contracts: a piece's readings are those of its stem and of its rows, a
-- row's those of what it leaves. The strips left fall with each call. Assumes nothing.
use Rattle.std.proofs.Common.{◌≡◌, ℕ, suc, ◌+◌, ◌-◌, ◌<◌, ◌≤◌, true, false, List, [], take, get_or, refl, sym, ap, ◌∙◌, arith}
use native.Mathlib.Nat.{sub-zero}
use Rattle.tables.specs.Tables.{affixes}
use Rattle.strips.specs.Suffix.{rests_of}
use Rattle.sheet.specs.Replies.{Ask, reply}
use Rattle.ranking.specs.Lists.{plus_all}
use Rattle.paths.specs.Walk.{piece_walk}
use Rattle.paths.specs.Weighed.{row_weighed, weighed, total_rows}
use Rattle.paths.proofs.Few.{prefix_two}
use Rattle.paths.proofs.Totals.{rows_next, rows_end}
use Rattle.paths.proofs.Weighed.{weighed-fits}
use Rattle.analysis.proofs.Visited.{row_zero, row_one, row_two, row_zero_ends, piece_stopped, piece_deepest, piece_begun}
use Rattle.analysis.proofs.Strips.{shorter, row-none, row_plain, row-both, row_turn, row_pass, row-end, piece-progressive, piece-last, piece-rows}
use Rattle.analysis.specs.declared.piece.Piece.{Piece}
use Rattle.analysis.proofs.Below.{is_none_else, left_are, plain_in, shared_in, longer, visited, visited_count}
use Rattle.analysis.proofs.suffixes.+below_visit.Goals as goal
use Rattle.analysis.proofs.suffixes.+below_visit.Goals.{below-After-suffix_rests-rests, visit-After-with_stem-each}

-- what the strip leaves
rests_are : (t : ℕ) (c : below-After-suffix_rests-rests t) → c.suffix_rests-rests.result ≡ rests_of (take c.args.at.now.end c.args.at.now.asked.now.word.now) (get_or affixes c.args.k [])
rests_are t c =
    c.suffix_rests-rests.ensures
    ∙ ap (rests_of (take c.args.at.now.end c.args.at.now.asked.now.word.now)) (c.affix.ensures ∙ ap (λ (k : ℕ). get_or affixes k []) c.from.ensures)

pub below-returns-in_default : goal.below-returns-in_default
below-returns-in_default t c =
    let a = c.args.at.now in
    let e = rests_are t (goal.at.below-returns-in_default t c).After-suffix_rests-rests in
    let l = (left_are a.asked.now.word.now a.end c.args.k a.inside _ e).none (is_none_else _ c.in_default.not-Some) in
    let p = take a.end a.asked.now.word.now in
    (row-none a.asked.now.word.now p (piece_walk (3 - a.chain.count) (reply a.asked.now.sheet.now.bytes.now) a.surface) (reply a.asked.now.sheet.now.bytes.now) a.chain c.args.k c.args.kept.now l.0 l.1, row_zero (weighed (3 - a.chain.count) (reply a.asked.now.sheet.now.bytes.now)) a.times p c.args.k l.0 l.1)

pub below-stripped-next-requires : goal.below-stripped-next-requires
below-stripped-next-requires t c =
    let a = c.args.at.now in
    let e = rests_are t (goal.at.below-stripped-next-requires t c).After-suffix_rests-rests in
    (plain_in a.asked.now.word.now a.end c.args.k a.inside _ e c.in-Some.plain c.in-Some.is, c.requires)

pub below-visit-f-requires : goal.below-visit-f-requires
below-visit-f-requires t c = omega (arith, c.decreases, longer c.args.at.now c.stripped-next.result _ c.args.k _ false c.stripped-next.ensures c.kind_at-kind.ensures, c.requires)

pub below-returns-in_default-shared : goal.below-returns-in_default-shared
below-returns-in_default-shared t c =
    let a = c.args.at.now in
    let k = c.args.k in
    let r = c.suffix_rests-rests.result in
    let e = rests_are t (goal.at.below-returns-in_default-shared t c).After-suffix_rests-rests in
    let x = left_are a.asked.now.word.now a.end k a.inside r e in
    let n = c.in-Some.plain in
    let l0 = x.plain_left n c.in-Some.is in
    let l1 = x.no_shared_left (is_none_else _ c.in_default-shared.not-Some) in
    let i = shorter a.asked.now.word.now n a.end (plain_in a.asked.now.word.now a.end k a.inside r e n c.in-Some.is) in
    let p = take a.end a.asked.now.word.now in
    let ask = reply a.asked.now.sheet.now.bytes.now in
    let s = c.stripped-next in (
      row_plain a.asked.now.word.now p (piece_walk (3 - a.chain.count) ask a.surface) ask a.chain k c.args.kept.now _ _ refl refl _ _ (l0 ∙ i)
          (visited a s.result n k _ false s.ensures c.kind_at-kind.ensures _ c.visit-f.ensures.0) l1,
      row_one (weighed (3 - a.chain.count) ask) a.times p k _ _ refl refl _ _ (l0 ∙ i)
          (visited_count a s.result n k _ false s.ensures c.kind_at-kind.ensures c.visit-f.ensures.1) l1,
    )

pub below-stripped-other-requires : goal.below-stripped-other-requires
below-stripped-other-requires t c =
    let a = c.args.at.now in
    let e = rests_are t (goal.at.below-stripped-other-requires t c).After-suffix_rests-rests in
    (shared_in a.asked.now.word.now a.end c.args.k a.inside _ e c.in-Some-shared.shared c.in-Some-shared.is, c.requires)

pub below-visit-requires : goal.below-visit-requires
below-visit-requires t c = omega (arith, c.decreases, longer c.args.at.now c.stripped-other.result _ c.args.k _ true c.stripped-other.ensures c.kind_at-kind.ensures, c.requires)

pub below-overflow_add-result : goal.below-overflow_add-result
below-overflow_add-result t c =
    let few : (p : Piece) (ask : Ask) (left : List ℕ) → weighed (4 - p.chain.count) ask p.rows p.times left ≤ 200000000 =
    λ p ask left. weighed-fits ask (4 - p.chain.count) p.rows p.times left (omega arith) p.table p.twice in
    let next = c.stripped-next.result in
    let other = c.stripped-other.result in
    omega (
      arith,
      c.visit-f.ensures.1,
      c.visit.ensures.1,
      few next (reply next.asked.now.sheet.now.bytes.now) (take next.end next.asked.now.word.now),
      few other (reply other.asked.now.sheet.now.bytes.now) (take other.end other.asked.now.word.now),
    )

pub below-returns : goal.below-returns
below-returns t c =
    let a = c.args.at.now in
    let k = c.args.k in
    let r = c.suffix_rests-rests.result in
    let e = rests_are t (goal.at.below-returns t c).After-suffix_rests-rests in
    let x = left_are a.asked.now.word.now a.end k a.inside r e in
    let n = c.in-Some.plain in
    let o = c.in-Some-shared.shared in
    let l0 = x.plain_left n c.in-Some.is in
    let l1 = x.shared_left o c.in-Some-shared.is in
    let i = shorter a.asked.now.word.now n a.end (plain_in a.asked.now.word.now a.end k a.inside r e n c.in-Some.is) in
    let j = shorter a.asked.now.word.now o a.end (shared_in a.asked.now.word.now a.end k a.inside r e o c.in-Some-shared.is) in
    let p = take a.end a.asked.now.word.now in
    let ask = reply a.asked.now.sheet.now.bytes.now in
    let s = c.stripped-next in
    let h = c.stripped-other in
    let kind = c.kind_at-kind.ensures in (
      row-both a.asked.now.word.now p (piece_walk (3 - a.chain.count) ask a.surface) ask a.chain k c.args.kept.now _ _ refl refl _ _ (l0 ∙ i)
          (visited a s.result n k _ false s.ensures kind _ c.visit-f.ensures.0) _ refl _ _ (l1 ∙ j)
          (visited a h.result o k _ true h.ensures kind _ c.visit.ensures.0),
      row_two (weighed (3 - a.chain.count) ask) a.times p k _ _ refl refl _ _ (l0 ∙ i)
          (visited_count a s.result n k _ false s.ensures kind c.visit-f.ensures.1) _ _ (l1 ∙ j)
          (visited_count a h.result o k _ true h.ensures kind c.visit.ensures.1),
    )

-- what an entry counts is at most 8
each-few : (t : ℕ) (c : visit-After-with_stem-each t) → c.with_stem-each.result ≤ 7
each-few t c = omega (arith, c.with_stem-each.ensures.1, prefix_two (reply c.args.at.now.asked.now.sheet.now.bytes.now) (take c.args.at.now.end c.args.at.now.asked.now.word.now))

pub visit-overflow_add-each : goal.visit-overflow_add-each
visit-overflow_add-each t c = omega (arith, each-few t (goal.at.visit-overflow_add-each t c).After-with_stem-each)

pub visit-counted-requires : goal.visit-counted-requires
visit-counted-requires t c = (omega (arith, c.args.at.now.twice), omega (arith, each-few t (goal.at.visit-counted-requires t c).After-with_stem-each))

pub visit-returns-then-at : goal.visit-returns-then-at
visit-returns-then-at t c =
    let a = c.args in
    let s = c.with_stem-each in
    let p = take a.at.now.end a.at.now.asked.now.word.now in
    let ask = reply a.at.now.asked.now.sheet.now.bytes.now in
    let e = sym c.args.at.now.told ∙ c.if-at.true in (
      piece-progressive a.at.now.asked.now.word.now p ask a.at.now.surface a.at.now.chain a.at.now.rows a.kept.now _ s.ensures.0 (4 - a.at.now.chain.count) e,
      piece_stopped ask a.at.now.rows a.at.now.times p _ s.ensures.1 _ (4 - a.at.now.chain.count) e c.counted.ensures.0,
    )

pub visit-counted-requires-then-at-ge-STRIPS : goal.visit-counted-requires-then-at-ge-STRIPS
visit-counted-requires-then-at-ge-STRIPS t c = (omega (arith, c.args.at.now.twice), omega (arith, each-few t (goal.at.visit-counted-requires-then-at-ge-STRIPS t c).After-with_stem-each))

pub visit-returns-then-at-ge-STRIPS : goal.visit-returns-then-at-ge-STRIPS
visit-returns-then-at-ge-STRIPS t c =
    let a = c.args in
    let s = c.with_stem-each in
    let p = take a.at.now.end a.at.now.asked.now.word.now in
    let ask = reply a.at.now.asked.now.sheet.now.bytes.now in (
      piece-last a.at.now.asked.now.word.now p ask a.at.now.surface a.at.now.chain a.at.now.rows a.kept.now _ s.ensures.0 (4 - a.at.now.chain.count) (omega (arith, c.if-at-ge-STRIPS.true)),
      piece_deepest ask a.at.now.rows a.at.now.times p _ s.ensures.1 _ (4 - a.at.now.chain.count) (omega (arith, c.if-at-ge-STRIPS.true)) c.counted-then-at-ge-STRIPS.ensures.0,
    )

pub visit-counted-v-requires : goal.visit-counted-v-requires
visit-counted-v-requires t c = (c.entries.ensures.1, omega (arith, each-few t (goal.at.visit-counted-v-requires t c).After-with_stem-each))

pub visit-loop-k-init : goal.visit-loop-k-init
visit-loop-k-init t c =
    let a = c.args in
    let s = c.with_stem-each in
    let p = take a.at.now.end a.at.now.asked.now.word.now in
    let ask = reply a.at.now.asked.now.sheet.now.bytes.now in
    let n : 4 - a.at.now.chain.count ≡ suc (3 - a.at.now.chain.count) = omega (arith, c.if-at-ge-STRIPS.false) in (
      omega arith,
      rw (sub-zero a.at.now.rows),
      rw (sub-zero a.at.now.rows)
          (ap (λ (d : ℕ). weighed d ask a.at.now.rows a.at.now.times p) n
          ∙ piece_begun ask a.at.now.rows a.at.now.times p _ s.ensures.1 _ _ (3 - a.at.now.chain.count)
          (sym c.args.at.now.told ∙ c.if-at.false) c.entries.ensures.0 c.counted-v.ensures.0),
    )

pub visit-below-v-requires : goal.visit-below-v-requires
visit-below-v-requires t c =
    (omega (arith, c.decreases), c.if-at-ge-STRIPS.false)

-- a turn of the count
turned : (each : ℕ → ℕ) (whole v k rows r : ℕ) → k < rows → whole ≡ v + total_rows each k (rows - k) → r ≡ each k → whole ≡ (v + r) + total_rows each (k + 1) (rows - (k + 1))
turned each whole v k rows r h i e = omega (arith, i, rows_next each k rows h)

pub visit-overflow_add-v : goal.visit-overflow_add-v
visit-overflow_add-v t c =
    let a = c.args in
    let p = take a.at.now.end a.at.now.asked.now.word.now in
    let ask = reply a.at.now.asked.now.sheet.now.bytes.now in
    omega (
      arith,
      turned (row_weighed (weighed (3 - a.at.now.chain.count) ask) a.at.now.times p) _ _ c.loop-k.k a.at.now.rows _ c.loop-k-test.true c.loop-k.invariant.2 c.below-v.ensures.1,
      weighed-fits ask (4 - a.at.now.chain.count) a.at.now.rows a.at.now.times p (omega arith) c.args.at.now.table c.args.at.now.twice,
    )

pub visit-loop-k-preserved : goal.visit-loop-k-preserved
visit-loop-k-preserved t c =
    let a = c.args in
    let l = c.loop-k in
    let p = take a.at.now.end a.at.now.asked.now.word.now in
    let ask = reply a.at.now.asked.now.sheet.now.bytes.now in (
      omega (arith, c.loop-k-test.true),
      l.invariant.1
          ∙ row_turn a.at.now.asked.now.word.now p (piece_walk (3 - a.at.now.chain.count) ask a.at.now.surface) ask a.at.now.chain l.k a.at.now.rows l.kept _ c.loop-k-test.true c.below-v.ensures.0,
      turned (row_weighed (weighed (3 - a.at.now.chain.count) ask) a.at.now.times p) _ _ l.k a.at.now.rows _ c.loop-k-test.true l.invariant.2 c.below-v.ensures.1,
    )

pub visit-loop-k-preserved-then-not-ends : goal.visit-loop-k-preserved-then-not-ends
visit-loop-k-preserved-then-not-ends t c =
    let a = c.args in
    let l = c.loop-k in
    let p = take a.at.now.end a.at.now.asked.now.word.now in
    let ask = reply a.at.now.asked.now.sheet.now.bytes.now in
    let n = sym c.ends.ensures ∙ c.if-not-ends.true in (
      omega (arith, c.loop-k-test.true),
      l.invariant.1 ∙ row_pass a.at.now.asked.now.word.now p (piece_walk (3 - a.at.now.chain.count) ask a.at.now.surface) ask a.at.now.chain l.k a.at.now.rows l.kept c.loop-k-test.true n,
      omega (
        arith,
        turned (row_weighed (weighed (3 - a.at.now.chain.count) ask) a.at.now.times p) _ _ l.k a.at.now.rows 0 c.loop-k-test.true l.invariant.2
            (sym (row_zero_ends (weighed (3 - a.at.now.chain.count) ask) a.at.now.times p l.k n)),
      ),
    )

pub visit-returns : goal.visit-returns
visit-returns t c =
    let a = c.args in
    let l = c.loop-k in
    let s = c.with_stem-each in
    let p = take a.at.now.end a.at.now.asked.now.word.now in
    let ask = reply a.at.now.asked.now.sheet.now.bytes.now in
    let n : 4 - a.at.now.chain.count ≡ suc (3 - a.at.now.chain.count) = omega (arith, c.if-at-ge-STRIPS.false) in (
      sym (row-end a.at.now.asked.now.word.now p (piece_walk (3 - a.at.now.chain.count) ask a.at.now.surface) ask a.at.now.chain l.k a.at.now.rows l.kept c.loop-k-test.false)
          ∙ sym l.invariant.1
          ∙ piece-rows a.at.now.asked.now.word.now p ask a.at.now.surface a.at.now.chain a.at.now.rows a.kept.now _ s.ensures.0 (3 - a.at.now.chain.count)
          (sym c.args.at.now.told ∙ c.if-at.false)
          ∙ ap (λ (d : ℕ). plus_all a.at.now.asked.now.word.now a.kept.now (piece_walk d ask a.at.now.surface a.at.now.chain a.at.now.rows p)) (sym n),
      omega (arith, l.invariant.2, rows_end (row_weighed (weighed (3 - a.at.now.chain.count) ask) a.at.now.times p) l.k a.at.now.rows c.loop-k-test.false),
    )
