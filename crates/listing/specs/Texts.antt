-- The text of a list of readings (document 01, "Readings worked by hand"). Assumes nothing.
use Rattle.std.specs.Prelude.{ℕ, ◌+◌, ◌*◌, Bool, true, false, List, [], ◌∷◌, ◌++◌, map, length, take, get_or}
use Rattle.tables.specs.Rows.{prefix_labels}
use Rattle.tables.specs.Tables.{affixes}
use Rattle.ranking.specs.Rank.{stem_text, root_text}
use Rattle.ranking.specs.Lists.{list_limit}
use Rattle.ranking.specs.declared.AffixKind.{AffixKind}
use Rattle.ranking.specs.declared.AffixKind.TheVariants.{Particle, CaseMarker, PluralMarker, Postposition, ComparisonMarker}
use Rattle.ranking.specs.declared.Segment.{Segment}
use Rattle.ranking.specs.declared.Reading.{Reading}
use Rattle.ranking.specs.declared.Classified.{Classified}
use Rattle.tables.specs.Origins.{letter_of}
use Rattle.tables.specs.declared.origins.Origin.{Origin}
use Rattle.writing.specs.Decimal.{decimal}
use Rattle.writing.specs.Refused.{parted}

-- the name of a kind
abbrev pub kind_text : AffixKind → List ℕ
kind_text Particle = 0x70 ∷ 0x61 ∷ 0x72 ∷ 0x74 ∷ 0x69 ∷ 0x63 ∷ 0x6C ∷ 0x65 ∷ []  -- particle
kind_text CaseMarker = 0x63 ∷ 0x61 ∷ 0x73 ∷ 0x65 ∷ []  -- case
kind_text PluralMarker = 0x70 ∷ 0x6C ∷ 0x75 ∷ 0x72 ∷ 0x61 ∷ 0x6C ∷ []  -- plural
kind_text Postposition = 0x70 ∷ 0x6F ∷ 0x73 ∷ 0x74 ∷ []  -- post
kind_text ComparisonMarker = 0x63 ∷ 0x6F ∷ 0x6D ∷ 0x70 ∷ []  -- comp

-- what follows the kind where the first letter is shared
abbrev pub mark_text : Bool → List ℕ
mark_text true = 0x20 ∷ 0x73 ∷ 0x68 ∷ 0x61 ∷ 0x72 ∷ 0x65 ∷ 0x64 ∷ []  -- shared, behind a space
mark_text false = []

-- the text of a suffix row
abbrev pub affix_text : ℕ → List ℕ
affix_text k = get_or affixes k []

-- (LABEL KIND), or (LABEL KIND shared)
unfoldable pub segment_text : Segment → List ℕ
segment_text s =
    (0x28 ∷ [])  -- (
    ++ (affix_text s.label
    ++ ((0x20 ∷ [])
    ++ (kind_text s.kind
    ++ (mark_text s.shared
    ++ (0x29 ∷ [])))))  -- )

-- the label of a row of PREFIX_FORMS
abbrev pub label_text : ℕ → List ℕ
label_text k = get_or prefix_labels k []

-- a reading's prefix labels, outermost first, and its segments, nearest the stem first
abbrev pub prefix_texts : Reading → List (List ℕ)
prefix_texts r = map label_text (take r.prefix_count r.prefixes)

abbrev pub segment_texts : Reading → List (List ℕ)
segment_texts r = map segment_text (take r.suffix_count r.segments)

-- (r STEM ROOT (LABELS) (SEGMENTS) SCORE and a space, for a reading of the word w
unfoldable pub reading_text : List ℕ → Reading → List ℕ
reading_text w r =
    (0x28 ∷ 0x72 ∷ 0x20 ∷ [])  -- (r
    ++ (stem_text w r
    ++ ((0x20 ∷ [])
    ++ (root_text w r
    ++ ((0x20 ∷ 0x28 ∷ [])  -- (
    ++ (parted (prefix_texts r)
    ++ ((0x29 ∷ 0x20 ∷ 0x28 ∷ [])  -- ) (
    ++ (parted (segment_texts r)
    ++ ((0x29 ∷ 0x20 ∷ [])  -- )
    ++ (decimal r.score
    ++ (0x20 ∷ []))))))))))

-- the tag letter of an origin, t b d a, then ) and 0A
abbrev pub end_text : Origin → List ℕ
end_text o = letter_of o ∷ 0x29 ∷ 0x0A ∷ []

-- (r STEM ROOT (LABELS) (SEGMENTS) SCORE TAG) and 0A: TAG is the letter of the root's origin
unfoldable pub row_text : List ℕ → Classified → List ℕ
row_text w r = reading_text w r.reading ++ end_text r.origin

abbrev pub row_texts : List ℕ → List Classified → List ℕ
row_texts w [] = []
row_texts w (r ∷ rs) = row_text w r ++ row_texts w rs

-- (list N) and 0A, then the rows
unfoldable pub listing_text : List ℕ → List Classified → List ℕ
listing_text w rs =
    (0x28 ∷ 0x6C ∷ 0x69 ∷ 0x73 ∷ 0x74 ∷ 0x20 ∷ [])  -- (list
    ++ (decimal (length rs)
    ++ ((0x29 ∷ 0x0A ∷ [])  -- ) and 0A
    ++ row_texts w rs))

-- how long a row and a list can be, of a word that is not too long: the first line has at most 10 bytes
abbrev pub reading_room : ℕ
reading_room = 581

abbrev pub row_room : ℕ
row_room = reading_room + 3

abbrev pub listing_room : ℕ
listing_room = 10 + list_limit * row_room
