-- The rank of two readings of one word (document 01, "Rank"): score, suffix count, prefix count, stem, all descending; root bytes
-- ascending. A stem is a front part of the word, so that of two stems the one with more characters is the longer one, and two of
-- the same length are the same bytes. Assumes nothing.
use Rattle.std.specs.Prelude.{ℕ, Bool, true, false, List, ltb}
use Rattle.runs.specs.Runs.{pick, cmp}
use Rattle.std.specs.declared.cmp.Ordering.{Ordering}
use Rattle.std.specs.declared.cmp.Ordering.TheVariants.{Less, Equal, Greater}
use Rattle.ranking.specs.Parts.{part}
use Rattle.ranking.specs.declared.Reading.{Reading}

abbrev pub is_less : Ordering → Bool
is_less Less = true
is_less Equal = false
is_less Greater = false

-- the larger key comes first; where the keys are equal, `rest` decides
abbrev pub larger : ℕ → ℕ → Bool → Bool
larger a b rest = pick (ltb b a) true (pick (ltb a b) false rest)

-- the stem and the root of a reading of w
abbrev pub stem_text : List ℕ → Reading → List ℕ
stem_text w r = part w 0 r.stem

abbrev pub root_text : List ℕ → Reading → List ℕ
root_text w r = part w r.root r.stem

-- a comes before b
unfoldable pub ahead_of : List ℕ → Reading → Reading → Bool
ahead_of w a b =
    larger a.score b.score
    (larger a.suffix_count b.suffix_count
    (larger a.prefix_count b.prefix_count
    (larger a.stem b.stem
    (is_less (cmp (root_text w a) (root_text w b))))))
