-- The bytes of a stored confidence, one by one: the low byte of its bits first. Assumes nothing.
use mathlib.Core.Path.{◌≡◌, refl}
use mathlib.Core.List.{[], ◌∷◌}
use lib.Ieee.{binary32, to_bits, of_bits}
use Rattle.tables.specs.declared.origins.Origin.TheVariants.{Tatsam, Tadbhav, Deshaj, Aagantuk}
use Rattle.origin.specs.Decisions.{by_mark, by_stem, by_word, sure, no_evidence}
use Rattle.origin.specs.declared.OriginSource.TheVariants.{Override, Kosha, Heuristic, Unknown}
use Rattle.exports.specs.Codes.{origin_number, source_number}
use Rattle.exports.specs.Rows.{four_bytes}

-- 1.0, 0.95, 0.90, 0.65 and 0.0
pub sure-bytes : four_bytes (to_bits binary32 sure) ≡ 0x00 ∷ 0x00 ∷ 0x80 ∷ 0x3F ∷ []
unfolding to_bits of_bits
sure-bytes = refl

pub word_bytes : four_bytes (to_bits binary32 by_word) ≡ 0x33 ∷ 0x33 ∷ 0x73 ∷ 0x3F ∷ []
unfolding to_bits of_bits
word_bytes = refl

pub stem-bytes : four_bytes (to_bits binary32 by_stem) ≡ 0x66 ∷ 0x66 ∷ 0x66 ∷ 0x3F ∷ []
unfolding to_bits of_bits
stem-bytes = refl

pub mark_bytes : four_bytes (to_bits binary32 by_mark) ≡ 0x66 ∷ 0x66 ∷ 0x26 ∷ 0x3F ∷ []
unfolding to_bits of_bits
mark_bytes = refl

pub none-bytes : four_bytes (to_bits binary32 no_evidence.confidence) ≡ 0x00 ∷ 0x00 ∷ 0x00 ∷ 0x00 ∷ []
unfolding to_bits of_bits
none-bytes = refl

-- the numbers of the origins and of the sources, as the header of C names them
pub origin_numbers : origin_number Tatsam ∷ origin_number Tadbhav ∷ origin_number Deshaj ∷ origin_number Aagantuk ∷ [] ≡ 0 ∷ 1 ∷ 2 ∷ 3 ∷ []
origin_numbers = refl

pub source_numbers : source_number Override ∷ source_number Kosha ∷ source_number Heuristic ∷ source_number Unknown ∷ [] ≡ 0 ∷ 1 ∷ 2 ∷ 3 ∷ []
source_numbers = refl
