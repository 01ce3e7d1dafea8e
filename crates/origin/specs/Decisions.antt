-- Where a word comes from, how that is known, and how surely (document 01, "origin.rs"): the first rule that applies. It is said of
-- replies, so that two sheets which reply alike are the same to it. Assumes nothing.
use Rattle.std.specs.Prelude.{ℕ, List, [], ◌∷◌, length, eqb, ltb, Float, Option, Some, None}
use Rattle.std.specs.Option.{option_or}
use Rattle.std.specs.Float.{binary32}
use Rattle.std.specs.Float.Ieee.{of_bits}
use Rattle.runs.specs.Runs.{pick}
use Rattle.text.specs.Characters.{chars}
use Rattle.tables.specs.Rows.{strip_suffixes}
use Rattle.tables.specs.Origins.{origin_of}
use Rattle.tables.specs.declared.origins.Origin.{Origin}
use Rattle.tables.specs.declared.origins.Origin.TheVariants.{Tatsam, Tadbhav, Deshaj, Aagantuk}
use Rattle.sheet.specs.Replies.{Ask, letters_by}
use Rattle.sheet.specs.declared.letters.Letters.{Letters}
use Rattle.strips.specs.Suffix.{remainders}
use Rattle.origin.specs.Marks.{heuristic_of}
use Rattle.origin.specs.declared.OriginSource.{OriginSource}
use Rattle.origin.specs.declared.OriginSource.TheVariants.{Override, Kosha, Heuristic, Unknown}
use Rattle.origin.specs.declared.OriginDecision.{OriginDecision}
use Rattle.origin.specs.declared.kosha.Known.{Known}
use Rattle.origin.specs.declared.kosha.Known.TheVariants.{Tagged, Headword}

-- Confidence, the nearest f32, by its bits: 0.0, 0.65, 0.90, 0.95 and 1.0.
abbrev pub none : Float
none = of_bits binary32 0x00000000

abbrev pub by_mark : Float
by_mark = of_bits binary32 0x3F266666

abbrev pub by_stem : Float
by_stem = of_bits binary32 0x3F666666

abbrev pub by_word : Float
by_word = of_bits binary32 0x3F733333

abbrev pub sure : Float
sure = of_bits binary32 0x3F800000

abbrev pub decided : Origin → OriginSource → Float → OriginDecision
decided o s f = record { origin = o; source = s; confidence = f }

-- nothing is known of the origin
abbrev pub no_evidence : OriginDecision
no_evidence = decided Deshaj Unknown none

-- What a sheet knows of a name: its tag, that it is a headword without one, or nothing.
abbrev pub if_untagged : Option Known → Option Origin → Option Known
if_untagged k None = k
if_untagged k (Some origin) = Some (Tagged origin)

unfoldable pub known_in : Letters → Option Known
known_in l = if_untagged (pick l.head (Some Headword) None) l.tag

unfoldable pub known_by : Ask → List ℕ → Option Known
known_by ask name = known_in (letters_by ask name)

-- what is known of the first text of which something is
abbrev pub first_known : (List ℕ → Option Known) → List (List ℕ) → Option Known
first_known f [] = None
first_known f (t ∷ ts) = option_or (f t) (first_known f ts)

-- a remainder of more than one character is asked for
unfoldable pub known_rest : Ask → List ℕ → Option Known
known_rest ask r = pick (ltb 1 (chars r)) (known_by ask r) None

-- each remainder of w under the suffix
unfoldable pub known_under : Ask → List ℕ → List ℕ → Option Known
known_under ask w suffix = first_known (known_rest ask) (remainders w suffix)

-- under each of the 22 suffixes in order
unfoldable pub known_stem : Ask → List ℕ → Option Known
known_stem ask w = first_known (known_under ask w) strip_suffixes

-- The rules, each with the decision of those that come after it.
abbrev pub or_by_table : Option Origin → OriginDecision → OriginDecision
or_by_table (Some o) rest = decided o Override sure
or_by_table None rest = rest

abbrev pub or_by_kosha : Float → Option Known → OriginDecision → OriginDecision
or_by_kosha f (Some (Tagged o)) rest = decided o Kosha f
or_by_kosha f (Some Headword) rest = no_evidence
or_by_kosha f None rest = rest

abbrev pub by_marks : Origin → OriginDecision
by_marks Deshaj = no_evidence
by_marks Tatsam = decided Tatsam Heuristic by_mark
by_marks Tadbhav = decided Tadbhav Heuristic by_mark
by_marks Aagantuk = decided Aagantuk Heuristic by_mark

-- the decision on w: the first that applies of the empty word, the table, the word's tag, a headword without tag, the same of each
-- remainder, the marks
unfoldable pub decision_of : Ask → List ℕ → OriginDecision
decision_of ask w =
    pick (eqb (length w) 0) no_evidence
    (or_by_table (origin_of w)
    (or_by_kosha by_word (known_by ask w)
    (or_by_kosha by_stem (known_stem ask w)
    (by_marks (heuristic_of w)))))
