-- The surface is counted in front of the walk: with any number in its place, the walk finds the same paths, and each score has that
-- number added. Assumes nothing.
use Prim.Native.Nat.{ℕ, ◌+◌}
use native.Mathlib.Omega.{arith}
use mathlib.Core.Path.{◌≡◌, sym, ap, ◌∙◌}
use mathlib.Core.List.{List, [], map}
use Rattle.sheet.specs.Replies.{Ask}
use Rattle.ranking.specs.declared.Reading.{Reading}
use Rattle.paths.specs.Support.{score_of}
use Rattle.paths.specs.Chains.{most_strips, all_rows, Route}
use Rattle.paths.specs.Walk.{word_walk}
use Rattle.paths.proofs.Walked.{map-map, record_in, walk_is}
use Rattle.paths.proofs.Routes.{routes}

-- the same reading with n more points
abbrev pub raised : ℕ → Reading → Reading
raised n r = record {
  stem = r.stem;
  root = r.root;
  score = r.score + n;
  prefixes = r.prefixes;
  segments = r.segments;
  prefix_count = r.prefix_count;
  suffix_count = r.suffix_count;
}

score_raised : (ask : Ask) (n : ℕ) (root : List ℕ) (i j : ℕ) → score_of ask n root i j ≡ score_of ask 0 root i j + n
unfolding score_of
score_raised ask n root i j = omega arith

-- the walk with n handed in is the walk with 0, n added to each score
pub counted-once : (ask : Ask) (n : ℕ) (w : List ℕ) → word_walk ask n w ≡ map (raised n) (word_walk ask 0 w)
counted-once ask n w =
    walk_is ask n most_strips [] all_rows w
    ∙ ap (λ (f : Route → Reading). map f (routes ask w)) (λ i p. record {
      stem = (record_in ask 0 [] p).stem;
      root = (record_in ask 0 [] p).root;
      score = score_raised ask n p.root (record_in ask 0 [] p).prefix_count (record_in ask 0 [] p).suffix_count i;
      prefixes = (record_in ask 0 [] p).prefixes;
      segments = (record_in ask 0 [] p).segments;
      prefix_count = (record_in ask 0 [] p).prefix_count;
      suffix_count = (record_in ask 0 [] p).suffix_count;
    })
    ∙ sym (map-map (raised n) (record_in ask 0 []) (routes ask w))
    ∙ ap (map (raised n)) (sym (walk_is ask 0 most_strips [] all_rows w))
