-- What a row's strip of a piece leaves, and a visit of what it leaves, as the walk says them: the proof of the walk cites these.
-- Assumes nothing.
use Rattle.std.proofs.Common.{◌≡◌, ℕ, ◌+◌, ◌-◌, ◌≤◌, Bool, Option, Some, None, List, [], length, take, get_or, refl, sym, ap, ap₂, ◌∙◌, subst, arith, length-take-le}
use Rattle.std.specs.Prelude.{IfSome}
use Rattle.tables.specs.Tables.{affixes}
use Rattle.strips.specs.Suffix.{rests_of}
use Rattle.strips.specs.declared.suffix.Rests.{Rests}
use Rattle.strips.proofs.Remainders.{Inside, rests_inside}
use Rattle.sheet.specs.Replies.{Ask, reply}
use Rattle.lookup.specs.declared.asked.Asked.{Asked}
use Rattle.ranking.specs.Lists.{Rows, plus_all}
use Rattle.ranking.specs.declared.AffixKind.{AffixKind}
use Rattle.paths.specs.declared.Chain.{Chain}
use Rattle.paths.specs.Readings.{segment_of, kind_of}
use Rattle.paths.specs.Walk.{pushed_of, piece_walk}
use Rattle.paths.specs.Chains.{rows_after}
use Rattle.paths.specs.Weighed.{times_after, weighed}
use Rattle.analysis.specs.Pieces.{Stripped}
use Rattle.analysis.specs.declared.piece.Piece.{Piece}
use Rattle.analysis.proofs.Strips.{Lefts, lefts}

-- what is not some number is none
pub is_none_else : (o : Option ℕ) → ((n : ℕ) → o ≡ Some n → ⊥) → o ≡ None
is_none_else None h = refl
is_none_else (Some n) h = absurd (h n refl)

module _ (word : List ℕ) (end k : ℕ) (within : end ≤ length word) (r : Rests) (e : r ≡ rests_of (take end word) (get_or affixes k [])) where
  -- what is left, by which remainders there are
  pub left_are : Lefts (take end word) (get_or affixes k []) r
  left_are = subst (Lefts (take end word) (get_or affixes k [])) (sym e) (lefts (take end word) (get_or affixes k []))

  -- the remainders lie inside the piece
  inside_are : Inside (take end word) r
  inside_are = subst (Inside (take end word)) (sym e) (rests_inside (take end word) (get_or affixes k []))

  some_in : (o : Option ℕ) (n : ℕ) → IfSome o (λ k. k ≤ length (take end word)) → o ≡ Some n → n ≤ end
  some_in None n h e = absurd (let z : ◌≡◌ {A = ℕ} 0 1 = cc in omega arith)
  some_in (Some k) n h e = let q : k ≡ n = cc in omega (arith, h, length-take-le end word within)

  pub plain_in : (n : ℕ) → r.plain ≡ Some n → n ≤ end
  plain_in n = some_in r.plain n inside_are.plain_in

  pub shared_in : (n : ℕ) → r.shared ≡ Some n → n ≤ end
  shared_in n = some_in r.shared n inside_are.shared_in

-- the piece that a strip leaves, with the row's suffix marked plain or shared
module _ (at p : Piece) (end k : ℕ) (kind : AffixKind) (b : Bool) (e : Stripped at end (record { label = k; kind = kind; shared = b }) p)
    (ek : kind ≡ kind_of (reply at.asked.now.sheet.now.bytes.now) k) where
  abbrev ask : Ask
  ask = reply at.asked.now.sheet.now.bytes.now

  -- the chain with the suffix
  abbrev pub next : Chain
  next = pushed_of at.chain (segment_of ask (record { row = k; is_shared = b }))

  chained : p.chain ≡ next
  chained = e.chained ∙ ap (λ (x : AffixKind). pushed_of at.chain (record { label = k; kind = x; shared = b })) ek

  pub longer : p.chain.count ≡ at.chain.count + 1
  longer = ap (λ (x : Chain). x.count) chained

  depth : 4 - p.chain.count ≡ 3 - at.chain.count
  depth = omega (arith, longer)

  -- a visit of what is left, with one strip fewer to come, as the walk says it
  pub visited : {x : Rows} (y : Rows)
      → x ≡ plus_all p.asked.now.word.now y (piece_walk (4 - p.chain.count) (reply p.asked.now.sheet.now.bytes.now) p.surface p.chain p.rows (take p.end p.asked.now.word.now))
      → x ≡ plus_all at.asked.now.word.now y (piece_walk (3 - at.chain.count) ask at.surface next (rows_after k) (take end at.asked.now.word.now))
  visited {x} y h =
      h
      ∙ ap (λ (d : ℕ). plus_all p.asked.now.word.now y (piece_walk d (reply p.asked.now.sheet.now.bytes.now) p.surface p.chain p.rows (take p.end p.asked.now.word.now))) depth
      ∙ ap (λ (q : Asked). plus_all q.word.now y (piece_walk (3 - at.chain.count) (reply q.sheet.now.bytes.now) p.surface p.chain p.rows (take p.end q.word.now))) e.same
      ∙ ap (λ (n : ℕ). plus_all at.asked.now.word.now y (piece_walk (3 - at.chain.count) ask n p.chain p.rows (take p.end at.asked.now.word.now))) e.counted
      ∙ ap (λ (c : Chain). plus_all at.asked.now.word.now y (piece_walk (3 - at.chain.count) ask at.surface c p.rows (take p.end at.asked.now.word.now))) chained
      ∙ ap₂ (λ (r n : ℕ). plus_all at.asked.now.word.now y (piece_walk (3 - at.chain.count) ask at.surface next r (take n at.asked.now.word.now))) e.follows e.ends

  -- and what is counted there
  pub visited_count : {v : ℕ} → v ≡ weighed (4 - p.chain.count) (reply p.asked.now.sheet.now.bytes.now) p.rows p.times (take p.end p.asked.now.word.now)
      → v ≡ weighed (3 - at.chain.count) ask (rows_after k) (times_after at.times k) (take end at.asked.now.word.now)
  visited_count {v} h =
      h
      ∙ ap (λ (d : ℕ). weighed d (reply p.asked.now.sheet.now.bytes.now) p.rows p.times (take p.end p.asked.now.word.now)) depth
      ∙ ap (λ (q : Asked). weighed (3 - at.chain.count) (reply q.sheet.now.bytes.now) p.rows p.times (take p.end q.word.now)) e.same
      ∙ ap₂ (λ (r t : ℕ). weighed (3 - at.chain.count) ask r t (take p.end at.asked.now.word.now)) e.follows e.led
      ∙ ap (λ (n : ℕ). weighed (3 - at.chain.count) ask (rows_after k) (times_after at.times k) (take n at.asked.now.word.now)) e.ends
