-- A reading is a stem, a root, prefix labels and suffix labels for which a path exists (document 01). Here: a path's reading as
-- labels, and as the record that the code gives. Assumes nothing.
use Rattle.std.specs.Prelude.{ℕ, ◌-◌, ◌≡◌, List, [], ◌++◌, map, reverse, length, take, get_or, replicate, ltb, Option, Some, None}
use Rattle.runs.specs.Runs.{pick}
use Rattle.text.specs.Characters.{chars}
use Rattle.tables.specs.Rows.{prefix_labels}
use Rattle.tables.specs.Tables.{affixes}
use Rattle.sheet.specs.Replies.{Ask}
use Rattle.lookup.specs.Answers.{kind_told}
use Rattle.lookup.specs.declared.answers.SheetKind.{SheetKind}
use Rattle.lookup.specs.declared.answers.SheetKind.TheVariants.{Post, Comp}
use Rattle.ranking.specs.declared.AffixKind.{AffixKind}
use Rattle.ranking.specs.declared.AffixKind.TheVariants.{Particle, CaseMarker, PluralMarker, Postposition, ComparisonMarker}
use Rattle.ranking.specs.declared.Segment.{Segment}
use Rattle.ranking.specs.Stored.{no_segment}
use Rattle.ranking.specs.Rank.{root_text}
use Rattle.ranking.specs.Lists.{with_origin}
use Rattle.ranking.specs.declared.Reading.{Reading}
use Rattle.ranking.specs.declared.Classified.{Classified}
use Rattle.origin.specs.Decisions.{decision_of}
use Rattle.paths.specs.Support.{score_of}
use Rattle.paths.specs.Chains.{most_strips, most_prefixes, Strip, text_of, Route, PathOf}
use Rattle.paths.specs.declared.Chain.{Chain}
use Rattle.paths.specs.declared.Prefixes.{Prefixes}

-- the four parts by which readings are told apart: suffix labels stand nearest the stem first, prefix labels outermost first
pub record Parts : Type 0 where
  pub stem : List ℕ
  pub root : List ℕ
  pub prefixes : List (List ℕ)
  pub suffixes : List (List ℕ)

abbrev pub label_of : ℕ → List ℕ
label_of row = get_or prefix_labels row []

abbrev pub parts_of : Route → Parts
parts_of p = record { stem = p.stem; root = p.root; prefixes = map label_of p.prefix_rows; suffixes = reverse (map text_of p.strips) }

-- r is a reading of w
abbrev pub IsReading : Ask → List ℕ → Parts → Type 0
IsReading ask w r = (p : Route) × PathOf ask w p × (parts_of p ≡ r)

-- the kind of a row's group: plural marker, case marker, particle
abbrev pub group_kind : ℕ → AffixKind
group_kind row = pick (ltb row 2) PluralMarker (pick (ltb row 18) CaseMarker Particle)

-- a kind line of the sheet overrides the kind of its group
abbrev pub overridden : Option SheetKind → AffixKind → AffixKind
overridden None kind = kind
overridden (Some Post) kind = Postposition
overridden (Some Comp) kind = ComparisonMarker

abbrev pub kind_of : Ask → ℕ → AffixKind
kind_of ask row = overridden (kind_told (ask 0x6B (get_or affixes row []))) (group_kind row)

-- a segment is a label with its kind, and the mark of its strip
abbrev pub segment_of : Ask → Strip → Segment
segment_of ask x = record { label = x.row; kind = kind_of ask x.row; shared = x.is_shared }

-- exactly n of xs, filled up with d
abbrev pub filled : {A : Type 0} → ℕ → A → List A → List A
filled n d xs = take n (xs ++ replicate n d)

-- the suffixes of these strips, nearest the stem first, and these prefix rows, each in its places
abbrev pub chain_of : Ask → List Strip → Chain
chain_of ask strips = record { segments = filled most_strips no_segment (reverse (map (segment_of ask) strips)); count = length strips }

abbrev pub prefixes_of : List ℕ → Prefixes
prefixes_of rows = record { rows = filled most_prefixes 0 rows; count = length rows }

-- how every reading is built: the stem is the word's first `stem` bytes, and the root what stands in the stem from byte `at` on
abbrev pub built : Ask → ℕ → ℕ → ℕ → List ℕ → Prefixes → Chain → Reading
built ask surface stem at root prefixes chain = record {
  stem = stem;
  root = at;
  score = score_of ask surface root prefixes.count chain.count;
  prefixes = prefixes.rows;
  segments = chain.segments;
  prefix_count = prefixes.count;
  suffix_count = chain.count;
}

-- the record of a path: the stem is a front part of the word, and the root what ends it
unfoldable pub reading_of : Ask → List ℕ → Route → Reading
reading_of ask w p =
    built ask (chars w) (length p.stem) (length p.stem - length p.root) p.root (prefixes_of p.prefix_rows) (chain_of ask p.strips)

-- the row of a path, as it is handed out: its record, with what is decided of its root (document 02 (h))
unfoldable pub row_of : Ask → List ℕ → Route → Classified
row_of ask w p = with_origin (reading_of ask w p) (decision_of ask p.root)

-- the same from a record, whose root is a part of the word
unfoldable pub classified : Ask → List ℕ → Reading → Classified
classified ask w r = with_origin r (decision_of ask (root_text w r))
