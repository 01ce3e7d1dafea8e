-- The list of candidates in rank order, each root with its prefixes and suffixes once. Assumes nothing.
use Rattle.std.specs.Prelude.{ℕ, Bool, true, false, None, List, [], ◌∷◌}
use Rattle.runs.specs.Runs.{pick}
use Rattle.tables.specs.declared.origins.Origin.TheVariants.{Tatsam}
use Rattle.decomposition.specs.declared.Parts.{Parts}
use Rattle.std.specs.Ordering.{is_eq}
use Rattle.roots.specs.Rank.{key_order, ahead_of}
use Rattle.roots.specs.declared.RootCandidate.{RootCandidate}

-- the most candidates of a word
abbrev pub root_limit : ℕ
root_limit = 16

-- there is a row
abbrev pub is_some : List RootCandidate → Bool
is_some [] = false
is_some (x ∷ xs) = true

-- some row has the root, prefixes and suffixes of p
unfoldable pub holds_in : List ℕ → Parts → List RootCandidate → Bool
holds_in w p [] = false
holds_in w p (x ∷ xs) = pick (is_eq (key_order w p x.parts)) true (holds_in w p xs)

-- r put in before the first row that it is ahead of
unfoldable pub ranked : List ℕ → RootCandidate → List RootCandidate → List RootCandidate
ranked w r [] = r ∷ []
ranked w r (x ∷ xs) = pick (ahead_of w r x) (r ∷ x ∷ xs) (x ∷ ranked w r xs)

-- each root, prefixes, suffixes once
unfoldable pub once : List ℕ → RootCandidate → List RootCandidate → List RootCandidate
once w r xs = pick (holds_in w r.parts xs) xs (ranked w r xs)

-- what stands past the end of a list of candidates
abbrev pub no_candidate : RootCandidate
no_candidate = record {
  score = 0;
  parts = record { start = 0; end = 0; prefix = None; suffix_count = 0; suffixes = [] };
  origin = Tatsam;
  known_word = false;
  known_headword = false;
}
