-- What the exported functions on decompositions and root candidates store in a lent buffer, and what they hand back: the code of a
-- refusal, 8 for a buffer that is too short, or an answer's value. Assumes nothing.
use Rattle.refusals.specs.declared.Refusal.{Refusal}
use Rattle.std.specs.Prelude.{ℕ, ◌+◌, ◌*◌, ◌/◌, ◌%◌, List, [], ◌∷◌, ◌++◌, length, drop, ltb, Err, Ok, Result}
use Rattle.std.specs.Option.{unwrap_or}
use Rattle.runs.specs.Runs.{pick}
use Rattle.refusals.specs.declared.Refusal.TheVariants.{OutputTooShort}
use Rattle.sheet.specs.Inputs.{inputs_of}
use Rattle.decomposition.specs.declared.Parts.{Parts}
use Rattle.decomposition.specs.declared.Morpheme.{Morpheme}
use Rattle.decomposition.specs.Parts.{prefixes_of}
use Rattle.decomposition.specs.Answers.{morpheme_answer}
use Rattle.roots.specs.declared.RootCandidate.{RootCandidate}
use Rattle.roots.specs.Answers.{roots_for}
use Rattle.exports.specs.Codes.{bit, refusal_code, origin_number}
use Rattle.ranking.specs.Stored.{cells}
use Rattle.exports.specs.Rows.{Filled, rows_filled}

-- 33 bytes: places of the root, prefix row and count, both 0 where there is none, suffix count, four bytes more, then the 24 places
-- for suffix rows
abbrev pub parts_bytes : Parts → List ℕ → List ℕ
parts_bytes p more =
    p.start ∷ p.end ∷ unwrap_or p.prefix 0 ∷ length (prefixes_of p.prefix) ∷ p.suffix_count ∷ (more ++ cells 24 0 p.suffixes)

abbrev pub filled_bytes : ℕ
filled_bytes = 33

-- of a decomposition the first of the four is its origin
abbrev pub morpheme_bytes : Morpheme → List ℕ
morpheme_bytes m = parts_bytes m.parts (origin_number m.origin ∷ 0 ∷ 0 ∷ 0 ∷ [])

-- of a candidate: origin, known by w in bit 0 and by h in bit 1, score with its low byte first
abbrev pub candidate_bytes : RootCandidate → List ℕ
candidate_bytes c = parts_bytes c.parts (origin_number c.origin ∷ (bit c.known_word + 2 * bit c.known_headword) ∷ (c.score % 256) ∷ (c.score / 256) ∷ [])

-- the bytes at the front of the buffer, or 8
abbrev pub stored : ℕ → List ℕ → List ℕ → Filled
stored code bytes out =
    pick (ltb (length out) filled_bytes) (record { code = refusal_code OutputTooShort; buffer = out }) (record { code = code; buffer = bytes ++ drop filled_bytes out })

abbrev pub decompose_if : Result Morpheme Refusal → List ℕ → Filled
decompose_if (Ok m) out = stored 0 (morpheme_bytes m) out
decompose_if (Err r) out = record { code = refusal_code r; buffer = out }

-- what `yunthirel_decompose` does
unfoldable pub decompose_filled : List ℕ → List ℕ → List ℕ → Filled
decompose_filled word sheet out = decompose_if (morpheme_answer word sheet) out

abbrev pub candidate_width : ℕ
candidate_width = filled_bytes

abbrev pub candidates_if : Result (Unit {0}) Refusal → List RootCandidate → List ℕ → Filled
candidates_if (Ok _) rows out = rows_filled candidate_width candidate_bytes rows out
candidates_if (Err r) rows out = record { code = refusal_code r; buffer = out }

-- what `yunthirel_candidates` does
unfoldable pub candidates_filled : List ℕ → List ℕ → List ℕ → Filled
candidates_filled word sheet out = candidates_if (inputs_of word sheet) (roots_for word sheet) out
