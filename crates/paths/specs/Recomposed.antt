-- A reading puts its word back together (document 02 (f)): the surface forms of its prefixes, then the root, are the stem; the stem, then
-- its suffixes nearest first, a shared letter written once, is the surface. Said of the reading as it is handed out, with the word only
-- to read stem and root off their places. Assumes nothing.
use Rattle.std.specs.Prelude.{ℕ, ◌≡◌, List, [], ◌∷◌, ◌++◌, map, take, drop, get_or}
use Rattle.runs.specs.Runs.{pick}
use Rattle.tables.specs.Tables.{affixes}
use Rattle.strips.specs.Suffix.{first_length}
use Rattle.ranking.specs.Rank.{stem_text, root_text}
use Rattle.ranking.specs.declared.Segment.{Segment}
use Rattle.ranking.specs.declared.Reading.{Reading}
use Rattle.paths.specs.Chains.{form_of}

-- texts one after the other
abbrev pub in_row : List (List ℕ) → List ℕ
in_row [] = []
in_row (t ∷ ts) = t ++ in_row ts

-- what of a suffix's text is written: all of it, or, where its first character is shared, what follows that character
abbrev pub written_of : Segment → List ℕ
written_of s = pick s.shared (drop (first_length (get_or affixes s.label [])) (get_or affixes s.label [])) (get_or affixes s.label [])

-- the forms of the prefixes, outermost first, as they stand on the page
abbrev pub prefix_forms : Reading → List (List ℕ)
prefix_forms r = map form_of (take r.prefix_count r.prefixes)

-- what is written of the suffixes, nearest the stem first
abbrev pub suffix_texts : Reading → List (List ℕ)
suffix_texts r = map written_of (take r.suffix_count r.segments)

-- what a printer joins: the forms of the prefixes, the root, what is written of the suffixes
unfoldable pub surface_text : List ℕ → Reading → List ℕ
surface_text w r = in_row (prefix_forms r) ++ (root_text w r ++ in_row (suffix_texts r))

-- the reading r of the word w puts it back together
pub record Recomposed (w : List ℕ) (r : Reading) : Type 0 where
  pub stem-joined : in_row (prefix_forms r) ++ root_text w r ≡ stem_text w r
  pub word-joined : stem_text w r ++ in_row (suffix_texts r) ≡ w

-- every element
abbrev pub All : {A : Type 0} → (A → Type 0) → List A → Type 0
All P [] = Unit {0}
All P (x ∷ xs) = P x × All P xs
