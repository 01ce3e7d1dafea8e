-- What a reading puts together where it is not one of the word's own: its rows and marks, with the part of the word that its places name.
-- Assumes nothing.
use Prim.Native.Nat.{ℕ}
use mathlib.Core.Path.{◌≡◌, refl}
use mathlib.Core.Bool.{true, false}
use mathlib.Core.List.{List, [], ◌∷◌}
use Rattle.text.specs.Utf8.{within}
use Rattle.text.specs.Characters.{opens}
use Rattle.tables.specs.Rows.{prefix_forms, plural_markers, case_markers, particles}
use Rattle.tables.specs.Tables.{affixes}
use Rattle.ranking.specs.Parts.{part}
use Rattle.ranking.specs.Stored.{no_segment}
use Rattle.ranking.specs.declared.AffixKind.TheVariants.{CaseMarker}
use Rattle.ranking.specs.declared.Segment.{Segment}
use Rattle.ranking.specs.declared.Reading.{Reading}
use Rattle.paths.specs.Recomposed.{surface_text}
use Rattle.outcomes.specs.Words.{ghar, gharle, nihshulk, shulk}

-- घरल
abbrev gharal : List ℕ
gharal = 0xE0 ∷ 0xA4 ∷ 0x98 ∷ 0xE0 ∷ 0xA4 ∷ 0xB0 ∷ 0xE0 ∷ 0xA4 ∷ 0xB2 ∷ []

abbrev with_suffix : ℕ → ℕ → Segment → Reading
with_suffix stem root s = record { stem = stem; root = root; score = 0; prefixes = 0 ∷ 0 ∷ []; segments = s ∷ no_segment ∷ no_segment ∷ no_segment ∷ []; prefix_count = 0; suffix_count = 1 }

-- ले behind घरल, its first letter shared
pub shared-behind : surface_text gharal (with_suffix 9 0 (record { label = 15; kind = CaseMarker; shared = true })) ≡ gharle
unfolding surface_text part affixes plural_markers case_markers particles within opens gharle
shared-behind = refl

-- ले behind घर, all of it
pub plain-behind : surface_text ghar (with_suffix 6 0 (record { label = 15; kind = CaseMarker; shared = false })) ≡ gharle
unfolding surface_text part affixes plural_markers case_markers particles ghar gharle
plain-behind = refl

-- निः before शुल्क: the form, not the label निर्
pub form-before :
    surface_text shulk (record { stem = 15; root = 0; score = 0; prefixes = 20 ∷ 0 ∷ []; segments = no_segment ∷ no_segment ∷ no_segment ∷ no_segment ∷ []; prefix_count = 1; suffix_count = 0 }) ≡ nihshulk
unfolding surface_text part prefix_forms shulk nihshulk
form-before = refl
