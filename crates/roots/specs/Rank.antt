-- The rank of two candidates of one word (document 01, "Root candidates"): score descending, h, w, root characters descending, root
-- bytes, prefix list, suffix list ascending. Labels are told by their rows and compare by their texts. Assumes nothing.
use Rattle.std.specs.Prelude.{ℕ, Bool, true, false, List, [], ◌∷◌, map, take, get_or, ltb}
use Rattle.runs.specs.Runs.{pick, cmp}
use Rattle.std.specs.Ordering.{ordering_then}
use Rattle.std.specs.declared.cmp.Ordering.{Ordering}
use Rattle.std.specs.declared.cmp.Ordering.TheVariants.{Less, Equal, Greater}
use Rattle.text.specs.Characters.{chars}
use Rattle.tables.specs.Rows.{suffixes, prefix_labels}
use Rattle.ranking.specs.Rank.{is_less}
use Rattle.decomposition.specs.Parts.{root_text, prefixes_of}
use Rattle.decomposition.specs.declared.Parts.{Parts}
use Rattle.roots.specs.declared.RootCandidate.{RootCandidate}

-- the larger number first
abbrev pub descending : ℕ → ℕ → Ordering
descending a b = pick (ltb b a) Less (pick (ltb a b) Greater Equal)

-- having it first
abbrev pub having : Bool → Bool → Ordering
having true true = Equal
having true false = Less
having false true = Greater
having false false = Equal

-- lists of texts, text by text by their bytes; a list stands before each longer one that it begins
abbrev pub cmp_texts : List (List ℕ) → List (List ℕ) → Ordering
cmp_texts [] [] = Equal
cmp_texts [] (y ∷ ys) = Less
cmp_texts (x ∷ xs) [] = Greater
cmp_texts (x ∷ xs) (y ∷ ys) = ordering_then (cmp x y) (cmp_texts xs ys)

-- the labels of parts
abbrev pub text_of : List (List ℕ) → ℕ → List ℕ
text_of rows k = get_or rows k []

abbrev pub prefix_texts : Parts → List (List ℕ)
prefix_texts p = map (text_of prefix_labels) (prefixes_of p.prefix)

abbrev pub suffix_texts : Parts → List (List ℕ)
suffix_texts p = map (text_of suffixes) (take p.suffix_count p.suffixes)

-- root bytes, prefix list, suffix list ascending
unfoldable pub key_order : List ℕ → Parts → Parts → Ordering
key_order w a b = ordering_then (cmp (root_text w a) (root_text w b)) (ordering_then (cmp_texts (prefix_texts a) (prefix_texts b)) (cmp_texts (suffix_texts a) (suffix_texts b)))

-- Less where a comes first
unfoldable pub rank_of : List ℕ → RootCandidate → RootCandidate → Ordering
rank_of w a b =
    ordering_then (descending a.score b.score)
    (ordering_then (having a.known_headword b.known_headword)
    (ordering_then (having a.known_word b.known_word)
    (ordering_then (descending (chars (root_text w a.parts)) (chars (root_text w b.parts)))
    (key_order w a.parts b.parts))))

unfoldable pub ahead_of : List ℕ → RootCandidate → RootCandidate → Bool
ahead_of w a b = is_less (rank_of w a b)
