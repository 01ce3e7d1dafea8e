-- What the code keeps on the way, in a list with room for n. proofs/Bounded.antt shows that room for 16 is enough.
-- Assumes nothing.
use Rattle.std.specs.Prelude.{ℕ, List, [], ◌∷◌, length, ltb}
use Rattle.runs.specs.Runs.{pick}
use Rattle.sheet.specs.Letters.{is_known}
use Rattle.sheet.specs.Replies.{Ask, letters_by}
use Rattle.sheet.specs.declared.letters.Letters.{Letters}
use Rattle.decomposition.specs.Parts.{root_text}
use Rattle.decomposition.specs.declared.Parts.{Parts}
use Rattle.roots.specs.Lists.{holds_in, ranked}
use Rattle.roots.specs.Candidates.{candidate_by}
use Rattle.roots.specs.declared.RootCandidate.{RootCandidate}

-- `once` in a list with room for n
unfoldable pub once_within : ℕ → List ℕ → RootCandidate → List RootCandidate → List RootCandidate
once_within n w r xs = pick (holds_in w r.parts xs) xs (pick (ltb (length xs) n) (ranked w r xs) xs)

-- `kept_of` and `kept_all` in such a list
abbrev pub held_by : ℕ → Ask → List ℕ → Parts → Letters → List RootCandidate → List RootCandidate
held_by n ask w p l xs = pick (is_known l) (once_within n w (candidate_by ask w p l) xs) xs

unfoldable pub held_of : ℕ → Ask → List ℕ → List RootCandidate → Parts → List RootCandidate
held_of n ask w xs p = held_by n ask w p (letters_by ask (root_text w p)) xs

unfoldable pub held_all : ℕ → Ask → List ℕ → List RootCandidate → List Parts → List RootCandidate
held_all n ask w xs [] = xs
held_all n ask w xs (p ∷ ps) = held_all n ask w (held_of n ask w xs p) ps
