-- Document 01's listing, and the two lines of a refusal, computed from the definitions byte by byte. Assumes nothing.
use Prim.Native.Nat.{ℕ}
use mathlib.Core.Path.{◌≡◌, refl}
use mathlib.Core.Bool.{false}
use mathlib.Core.List.{List, [], ◌∷◌}
use Rattle.tables.specs.Rows.{prefix_labels, plural_markers, case_markers, particles}
use Rattle.tables.specs.Tables.{affixes}
use Rattle.ranking.specs.Parts.{part}
use Rattle.ranking.specs.declared.AffixKind.TheVariants.{Particle, CaseMarker}
use Rattle.ranking.specs.declared.Segment.{Segment}
use Rattle.ranking.specs.declared.Reading.{Reading}
use Rattle.ranking.specs.declared.Classified.{Classified}
use Rattle.ranking.specs.Lists.{with_origin}
use Rattle.origin.specs.Decisions.{no_evidence}
use Rattle.writing.specs.Decimal.{digits_in, decimal}
use Rattle.writing.specs.Refused.{refused_text}
use Rattle.listing.specs.Texts.{segment_text, reading_text, row_text, listing_text}

-- घरले
abbrev word : List ℕ
word = 224 ∷ 164 ∷ 152 ∷ 224 ∷ 164 ∷ 176 ∷ 224 ∷ 164 ∷ 178 ∷ 224 ∷ 165 ∷ 135 ∷ []

abbrev unused : Segment
unused = record { label = 0; kind = Particle; shared = false }

-- stem and root घर, no prefix, ले by its row among the 25 texts
abbrev reading : Reading
reading = record {
  stem = 6;
  root = 0;
  score = 279;
  prefixes = 0 ∷ 0 ∷ [];
  segments = record { label = 15; kind = CaseMarker; shared = false } ∷ unused ∷ unused ∷ unused ∷ [];
  prefix_count = 0;
  suffix_count = 1;
}

-- of its root nothing is known, so that it is taken for Deshaj
abbrev row : Classified
row = with_origin reading no_evidence

-- (list 1)
-- (r घर घर () ((ले case)) 279 d)
pub listing_worked : listing_text word (row ∷ []) ≡ 40 ∷ 108 ∷ 105 ∷ 115 ∷ 116 ∷ 32 ∷ 49 ∷ 41 ∷ 10 ∷ 40 ∷ 114 ∷ 32 ∷ 224 ∷ 164 ∷ 152 ∷ 224 ∷ 164 ∷ 176 ∷ 32 ∷ 224 ∷ 164 ∷ 152 ∷ 224 ∷ 164 ∷ 176 ∷ 32 ∷ 40 ∷ 41 ∷ 32 ∷ 40 ∷ 40 ∷ 224 ∷ 164 ∷ 178 ∷ 224 ∷ 165 ∷ 135 ∷ 32 ∷ 99 ∷ 97 ∷ 115 ∷ 101 ∷ 41 ∷ 41 ∷ 32 ∷ 50 ∷ 55 ∷ 57 ∷ 32 ∷ 100 ∷ 41 ∷ 10 ∷ []
unfolding prefix_labels plural_markers case_markers particles affixes part digits_in decimal segment_text reading_text row_text listing_text
listing_worked = refl

-- (refused 4)
pub refused_worked : refused_text (4 ∷ []) ≡ 40 ∷ 114 ∷ 101 ∷ 102 ∷ 117 ∷ 115 ∷ 101 ∷ 100 ∷ 32 ∷ 52 ∷ 41 ∷ 10 ∷ []
unfolding digits_in decimal refused_text
refused_worked = refl

-- (refused 5 65535)
pub refused_line_worked : refused_text (5 ∷ 65535 ∷ []) ≡ 40 ∷ 114 ∷ 101 ∷ 102 ∷ 117 ∷ 115 ∷ 101 ∷ 100 ∷ 32 ∷ 53 ∷ 32 ∷ 54 ∷ 53 ∷ 53 ∷ 51 ∷ 53 ∷ 41 ∷ 10 ∷ []
unfolding digits_in decimal refused_text
refused_line_worked = refl
