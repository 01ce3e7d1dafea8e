-- How a caller reads what the static library's functions give, as the C header does: shifts and masks of a code are quotients and
-- remainders by powers of 2, and a row of bytes is a reading with its root's origin (its first 22 bytes: `ranking/specs/Stored.reading_at`), a candidate or a
-- decomposition. Assumes nothing.
use Rattle.std.specs.Prelude.{ℕ, ◌+◌, ◌*◌, ◌/◌, ◌%◌, ◌≡◌, Bool, List, [], ◌∷◌, take, drop, get_or, eqb, ltb, None, Option, Some}
use Rattle.runs.specs.Runs.{pick}
use Rattle.tables.specs.declared.origins.Origin.{Origin}
use Rattle.tables.specs.declared.origins.Origin.TheVariants.{Tatsam, Tadbhav, Deshaj, Aagantuk}
use Rattle.std.specs.Float.{binary32}
use Rattle.std.specs.Float.Ieee.{of_bits}
use Rattle.ranking.specs.Stored.{two_at, reading_at}
use Rattle.ranking.specs.declared.Classified.{Classified}
use Rattle.origin.specs.declared.OriginSource.{OriginSource}
use Rattle.origin.specs.declared.OriginSource.TheVariants.{Override, Kosha, Heuristic, Unknown}
use Rattle.decomposition.specs.declared.Parts.{Parts}
use Rattle.decomposition.specs.declared.Morpheme.{Morpheme}
use Rattle.roots.specs.declared.RootCandidate.{RootCandidate}

-- the lowest byte: the number of a refusal, 0 for an answer
abbrev pub number_of : ℕ → ℕ
number_of code = code % 256

-- what stands above it: the place that comes with a refusal, or the answer's value
abbrev pub value_of : ℕ → ℕ
value_of code = code / 256

-- the parts of a form's value
abbrev pub found_of : ℕ → ℕ
found_of code = value_of code % 2

abbrev pub negative_of : ℕ → ℕ
negative_of code = value_of code / 2 % 2

abbrev pub main_end_of : ℕ → ℕ
main_end_of code = value_of code / 4 % 256

abbrev pub lemma_len_of : ℕ → ℕ
lemma_len_of code = value_of code / 1024 % 256

abbrev pub lemma_at_of : ℕ → ℕ
lemma_at_of code = value_of code / 262144

-- the parts of an origin's value
abbrev pub origin_of : ℕ → ℕ
origin_of code = value_of code % 4

abbrev pub source_of : ℕ → ℕ
source_of code = value_of code / 4 % 4

-- the origin of each number
abbrev pub origin_at : ℕ → Origin
origin_at n = get_or (Tatsam ∷ Tadbhav ∷ Deshaj ∷ Aagantuk ∷ []) n Tatsam

-- the source of each number
abbrev pub source_at : ℕ → OriginSource
source_at n = get_or (Override ∷ Kosha ∷ Heuristic ∷ Unknown ∷ []) n Override

-- four bytes from the i-th on as a number, the low one first
abbrev pub four_at : List ℕ → ℕ → ℕ
four_at bytes i = get_or bytes i 0 + 256 * get_or bytes (i + 1) 0 + 65536 * get_or bytes (i + 2) 0 + 16777216 * get_or bytes (i + 3) 0

-- the reading with its root's origin whose row stands at the front; the confidence is the f32 with these bits
abbrev pub row_at : List ℕ → Classified
row_at bytes = record {
  reading = reading_at bytes;
  origin = origin_at (get_or bytes 22 0);
  source = source_at (get_or bytes 23 0);
  confidence = of_bits binary32 (four_at bytes 24);
}

-- whether a byte has the bit that this power of 2 stands for
abbrev pub has_bit : ℕ → ℕ → Bool
has_bit power byte = ltb 0 (byte / power % 2)

-- the prefix that its row and the count of prefixes say
abbrev pub prefix_at : ℕ → ℕ → Option ℕ
prefix_at row count = pick (eqb count 0) None (Some row)

-- of the parts whose row stands at the front: the prefix row and the count of prefixes, the bytes `prefix` and `prefix_count`
abbrev pub prefix_row_at : List ℕ → ℕ
prefix_row_at bytes = get_or bytes 2 0

abbrev pub prefix_count_at : List ℕ → ℕ
prefix_count_at bytes = get_or bytes 3 0

-- what the two bytes are: of no prefix a row of 0 and a count of 0, of a prefix its row and a count of 1
abbrev pub PrefixRead : List ℕ → Option ℕ → Type 0
PrefixRead bytes None = (prefix_row_at bytes ≡ 0) × (prefix_count_at bytes ≡ 0)
PrefixRead bytes (Some row) = (prefix_row_at bytes ≡ row) × (prefix_count_at bytes ≡ 1)

-- the parts whose row stands at the front: five bytes, and the 24 places for suffix rows from byte 9 on
abbrev pub parts_at : List ℕ → Parts
parts_at bytes = record {
  start = get_or bytes 0 0;
  end = get_or bytes 1 0;
  prefix = prefix_at (prefix_row_at bytes) (prefix_count_at bytes);
  suffix_count = get_or bytes 4 0;
  suffixes = take 24 (drop 9 bytes);
}

-- the candidate whose row stands at the front; bit 0 of byte 6 says known by w, bit 1 known by h
abbrev pub candidate_at : List ℕ → RootCandidate
candidate_at bytes = record {
  score = two_at bytes 7;
  parts = parts_at bytes;
  origin = origin_at (get_or bytes 5 0);
  known_word = has_bit 1 (get_or bytes 6 0);
  known_headword = has_bit 2 (get_or bytes 6 0);
}

-- the decomposition whose row stands at the front
abbrev pub decomposition_at : List ℕ → Morpheme
decomposition_at bytes = record { parts = parts_at bytes; origin = origin_at (get_or bytes 5 0) }
