-- Rows of bytes, stored one after the other in a lent buffer, and the rows of the list of readings. Assumes nothing.
use Rattle.refusals.specs.declared.Refusal.{Refusal}
use Rattle.std.specs.Prelude.{ℕ, ◌*◌, ◌/◌, ◌%◌, List, [], ◌∷◌, ◌++◌, length, drop, ltb, Err, Ok, Result}
use Rattle.std.specs.Float.{binary32}
use Rattle.std.specs.Float.Ieee.{to_bits}
use Rattle.runs.specs.Runs.{pick}
use Rattle.ranking.specs.declared.Classified.{Classified}
use Rattle.ranking.specs.Stored.{reading_bytes}
use Rattle.analysis.specs.Answers.{said_of, rows_given}
use Rattle.refusals.specs.declared.Refusal.TheVariants.{OutputTooShort}
use Rattle.exports.specs.Codes.{answered, refusal_code, origin_number, source_number}

-- four bytes, the low one first
abbrev pub four_bytes : ℕ → List ℕ
four_bytes n = n % 256 ∷ n / 256 % 256 ∷ n / 65536 % 256 ∷ n / 16777216 ∷ []

-- the row of a reading with its root's origin: the reading's 22 bytes, the numbers of origin and source, the bits of the confidence
abbrev pub row_bytes : Classified → List ℕ
row_bytes r = reading_bytes r.reading ++ (origin_number r.origin ∷ source_number r.source ∷ four_bytes (to_bits binary32 r.confidence))

-- so many bytes
abbrev pub row_width : ℕ
row_width = 28

-- what is handed back, and the buffer's later contents
pub record Filled : Type 0 where
  pub code : ℕ
  pub buffer : List ℕ

-- the rows as bytes, one after the other
unfoldable pub each : {A : Type 0} → (A → List ℕ) → List A → List ℕ
each bytes [] = []
each bytes (x ∷ xs) = bytes x ++ each bytes xs

-- rows of `width` bytes each at the front of the buffer, and their number; or 8, where they do not fit in
abbrev pub rows_filled : {A : Type 0} → ℕ → (A → List ℕ) → List A → List ℕ → Filled
rows_filled width bytes rows out =
    pick (ltb (length out) (width * length rows))
    (record { code = refusal_code OutputTooShort; buffer = out })
    (record { code = answered (length rows); buffer = each bytes rows ++ drop (width * length rows) out })

abbrev pub readings_if : Result (Unit {0}) Refusal → List Classified → List ℕ → Filled
readings_if (Ok _) rows out = rows_filled row_width row_bytes rows out
readings_if (Err r) rows out = record { code = refusal_code r; buffer = out }

-- what `yunthirel_readings` does
unfoldable pub readings_filled : List ℕ → List ℕ → List ℕ → Filled
readings_filled word sheet out = readings_if (said_of word sheet) (rows_given word sheet) out
