-- What the entries of root candidates hand back for any word and any sheet (document 01, "What an entry hands back"). Assumes
-- nothing.
use Rattle.refusals.specs.declared.Refusal.{Refusal}
use Rattle.std.specs.Prelude.{ℕ, List, [], Bool, Err, Ok, Result, Option, slice_get}
use Rattle.sheet.specs.Replies.{reply}
use Rattle.refusals.specs.Refusals.{numbers_of}
use Rattle.sheet.specs.Inputs.{inputs_of}
use Rattle.roots.specs.Lists.{is_some}
use Rattle.roots.specs.Candidates.{candidates}
use Rattle.roots.specs.declared.RootCandidate.{RootCandidate}
use Rattle.arrayvec.specs.ArrayVec.{ArrayVec}

-- the candidates, where word and sheet are accepted; none beside a refusal
abbrev pub roots_if : Result (Unit {0}) Refusal → List ℕ → List ℕ → List RootCandidate
roots_if (Ok _) word sheet = candidates (reply sheet) word
roots_if (Err r) word sheet = []

unfoldable pub roots_for : List ℕ → List ℕ → List RootCandidate
roots_for word sheet = roots_if (inputs_of word sheet) word sheet

-- the list of them, or why there is none
abbrev pub roots_by : Result (Unit {0}) Refusal → List RootCandidate → Result (ArrayVec RootCandidate) Refusal
roots_by (Ok _) xs = Ok (record { items = xs })
roots_by (Err r) xs = Err r

unfoldable pub roots_answer : List ℕ → List ℕ → Result (ArrayVec RootCandidate) Refusal
roots_answer word sheet = roots_by (inputs_of word sheet) (roots_for word sheet)

-- the first candidate, if there is one
abbrev pub best_in : Result (Unit {0}) Refusal → List RootCandidate → Result (Option RootCandidate) Refusal
best_in (Ok _) xs = Ok (slice_get xs 0)
best_in (Err r) xs = Err r

unfoldable pub best_answer : List ℕ → List ℕ → Result (Option RootCandidate) Refusal
best_answer word sheet = best_in (inputs_of word sheet) (roots_for word sheet)

-- whether there is one
abbrev pub known_if : Result (Unit {0}) Refusal → List RootCandidate → Result Bool Refusal
known_if (Ok _) xs = Ok (is_some xs)
known_if (Err r) xs = Err r

unfoldable pub known_answer : List ℕ → List ℕ → Result Bool Refusal
known_answer word sheet = known_if (inputs_of word sheet) (roots_for word sheet)

-- document 01's number of each answer, none where one is given
abbrev pub known_numbers : Result Bool Refusal → List ℕ
known_numbers (Ok b) = []
known_numbers (Err r) = numbers_of r
