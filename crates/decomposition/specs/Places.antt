-- How the code says a piece on its way through the suffix rows: by places in the piece and a list of labels. Assumes nothing.
use Rattle.std.specs.Prelude.{ℕ, ◌≤◌, ◌≡◌, List, length, take, Option, IfSome}
use Rattle.strips.specs.Suffix.{front}
use Rattle.decomposition.specs.declared.suffixes.Stripped.{Stripped}
use Rattle.decomposition.specs.Strips.{Stage}

-- the stage at which the code stands, on the way through a piece
abbrev pub stage_of : List ℕ → Stripped → Stage
stage_of whole s = record { piece = take s.len whole; labels = s.labels.items }

-- it lies inside the piece and has at most n labels
pub record Held (whole : List ℕ) (n : ℕ) (s : Stripped) : Type 0 where
  pub inside : s.len ≤ length whole
  pub few : length s.labels.items ≤ n

-- the code's answer says the remainder taken, which lies inside the piece
pub record FirstLeft (piece : List ℕ) (l : Option ℕ) (rests : List (List ℕ)) : Type 0 where
  pub says : front piece l ≡ rests
  pub within : IfSome l (λ n. n ≤ length piece)

-- a stage as the code says it
abbrev pub stripped_of : Stage → Stripped
stripped_of s = record { len = length s.piece; labels = record { items = s.labels } }
