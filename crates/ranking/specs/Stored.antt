-- The row of a reading: how its 22 bytes lie, and the reading that a row gives back. A row lies so in the buffer of the walk and in the
-- buffer that the exported function fills. Assumes nothing.
use Rattle.std.specs.Prelude.{ℕ, zero, suc, ◌+◌, ◌*◌, ◌/◌, ◌%◌, List, [], ◌∷◌, ◌++◌, get_or, ltb, Bool, false}
use Rattle.runs.specs.Runs.{pick}
use Rattle.ranking.specs.declared.AffixKind.{AffixKind}
use Rattle.ranking.specs.declared.AffixKind.TheVariants.{Particle, CaseMarker, PluralMarker, Postposition, ComparisonMarker}
use Rattle.ranking.specs.declared.Segment.{Segment}
use Rattle.ranking.specs.declared.Reading.{Reading}

-- the n numbers of xs from the i-th on
abbrev pub cells : ℕ → ℕ → List ℕ → List ℕ
cells zero i xs = []
cells (suc n) i xs = get_or xs i 0 ∷ cells n (suc i) xs

-- two bytes, the low one first
abbrev pub two_bytes : ℕ → List ℕ
two_bytes n = n % 256 ∷ n / 256 ∷ []

abbrev pub kind_number : AffixKind → ℕ
kind_number Particle = 0
kind_number CaseMarker = 1
kind_number PluralMarker = 2
kind_number Postposition = 3
kind_number ComparisonMarker = 4

-- the blank segment: what stands in a place that is not used
abbrev pub no_segment : Segment
no_segment = record { label = 0; kind = Particle; shared = false }

-- 1 for shared, 0 for plain
abbrev pub mark_number : Bool → ℕ
mark_number b = pick b 1 0

abbrev pub segment_bytes : Segment → List ℕ
segment_bytes s = s.label ∷ kind_number s.kind ∷ mark_number s.shared ∷ []

-- the n segments of xs from the i-th on
abbrev pub segment_cells : ℕ → ℕ → List Segment → List ℕ
segment_cells zero i xs = []
segment_cells (suc n) i xs = segment_bytes (get_or xs i no_segment) ++ segment_cells n (suc i) xs

-- stem, root and score, two prefix rows, four segments with row, kind and mark, the two counts
abbrev pub reading_bytes : Reading → List ℕ
reading_bytes r =
    two_bytes r.stem ++ two_bytes r.root ++ two_bytes r.score ++ cells 2 0 r.prefixes ++ segment_cells 4 0 r.segments
    ++ (r.prefix_count ∷ r.suffix_count ∷ [])

-- so many bytes
abbrev pub reading_width : ℕ
reading_width = 22

-- the kind of each number
abbrev pub kind_at : ℕ → AffixKind
kind_at n = get_or (Particle ∷ CaseMarker ∷ PluralMarker ∷ Postposition ∷ ComparisonMarker ∷ []) n Particle

-- two bytes from the i-th on as a number, the low one first
abbrev pub two_at : List ℕ → ℕ → ℕ
two_at bytes i = get_or bytes i 0 + 256 * get_or bytes (i + 1) 0

abbrev pub segment_at : List ℕ → ℕ → Segment
segment_at bytes i = record { label = get_or bytes i 0; kind = kind_at (get_or bytes (i + 1) 0); shared = ltb 0 (get_or bytes (i + 2) 0) }

-- the reading whose row stands at the front
abbrev pub reading_at : List ℕ → Reading
reading_at bytes = record {
  stem = two_at bytes 0;
  root = two_at bytes 2;
  score = two_at bytes 4;
  prefixes = get_or bytes 6 0 ∷ get_or bytes 7 0 ∷ [];
  segments = segment_at bytes 8 ∷ segment_at bytes 11 ∷ segment_at bytes 14 ∷ segment_at bytes 17 ∷ [];
  prefix_count = get_or bytes 20 0;
  suffix_count = get_or bytes 21 0;
}
