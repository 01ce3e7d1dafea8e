-- Parts of a sheet that a question's line holds, and the kind that a sheet gives a suffix. Assumes nothing.
use Rattle.std.specs.Prelude.{ℕ, ◌+◌, ◌≤◌, ◌≡◌, List, [], ◌∷◌, length, take, drop, None, Option, Some}
use Rattle.runs.specs.Runs.{pick, same_text}
use Rattle.sheet.specs.Lines.{line_at}
use Rattle.sheet.specs.Steps.{name_end}
use Rattle.sheet.specs.Replies.{Reply, unknown, told, reply}
use Rattle.sheet.specs.declared.form.FormAt.{FormAt}
use Rattle.lookup.specs.declared.answers.Spot.{Spot}
use Rattle.lookup.specs.declared.answers.SheetKind.{SheetKind}
use Rattle.lookup.specs.declared.answers.SheetKind.TheVariants.{Post, Comp}
use Rattle.lookup.specs.Search.{place_of}

-- what a part of the sheet reads, where there is one
abbrev pub text_at : List ℕ → Option Spot → Reply
text_at s None = unknown
text_at s (Some r) = told (take r.len (drop r.at s))

-- it lies in the sheet
abbrev pub SpotIn : List ℕ → Option Spot → Type 0
SpotIn s None = Unit {0}
SpotIn s (Some r) = r.at + r.len ≤ length s

-- where the value stands in the line found
abbrev pub value_spot : List ℕ → Option ℕ → Option Spot
value_spot s None = None
value_spot s (Some at) = Some (record { at = name_end s at + 2; len = length (line_at s at).value })

-- where the name stands in the line found
abbrev pub name_spot : List ℕ → Option ℕ → Option Spot
name_spot s None = None
name_spot s (Some at) = Some (record { at = at + 3; len = length (line_at s at).name })

-- what a line tells, if there is one
abbrev pub told_at : Option FormAt → Reply
told_at None = unknown
told_at (Some l) = told (line_at l.sheet.now l.at).value

-- the part that holds the value of the question's line: settled, read as the sheet replies, and inside the sheet
pub record ValueOf (s : List ℕ) (letter : ℕ) (name : List ℕ) (r : Option Spot) : Type 0 where
  pub settled : r ≡ value_spot s (place_of s letter name)
  pub reads : text_at s r ≡ reply s letter name
  pub inside : SpotIn s r

-- the question's name, where the sheet has a line for it
abbrev pub named : List ℕ → Reply → Reply
named name unknown = unknown
named name (told v) = told name

-- the part that holds the name of the question's line
pub record NameOf (s : List ℕ) (letter : ℕ) (name : List ℕ) (r : Option Spot) : Type 0 where
  pub settled : r ≡ name_spot s (place_of s letter name)
  pub reads : text_at s r ≡ named name (reply s letter name)
  pub inside : SpotIn s r

-- the kind that a value spells: `post`, else `comp`, since a form spells no other
abbrev pub post : List ℕ
post = 0x70 ∷ 0x6F ∷ 0x73 ∷ 0x74 ∷ []

abbrev pub kind_told : Reply → Option SheetKind
kind_told unknown = None
kind_told (told v) = Some (pick (same_text v post) Post Comp)

-- the kind that the sheet gives a suffix, none where it has no kind line for it
unfoldable pub kind_for : List ℕ → List ℕ → Option SheetKind
kind_for s name = kind_told (reply s 0x6B name)
