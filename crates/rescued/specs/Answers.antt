-- What the rescue hands back and what it leaves in the two buffers (document 02 (m)): 4 first; 8 if either output is too short, and then
-- neither is touched. Assumes nothing.
use Rattle.rescued.specs.declared.entry.Sizes.{Sizes}
use Rattle.refusals.specs.declared.Refusal.{Refusal}
use Rattle.std.specs.Prelude.{ℕ, ◌&&◌, List, [], ◌++◌, length, drop, leb, ltb, Err, Ok, Result}
use Rattle.runs.specs.Runs.{pick}
use Rattle.refusals.specs.Refusals.{numbers_of}
use Rattle.refusals.specs.declared.Refusal.TheVariants.{SheetTooLong, OutputTooShort}
use Rattle.sheet.specs.Limits.{sheet_limit}
use Rattle.rescued.specs.Stretches.{kept_of, report_of}

-- for a sheet and buffers of so many bytes
unfoldable pub rescued_of : List ℕ → ℕ → ℕ → Result Sizes Refusal
rescued_of s room space =
    pick (ltb sheet_limit (length s)) (Err SheetTooLong)
    (pick (leb (length (kept_of s)) room && leb (length (report_of s)) space) (Ok (record { kept = length (kept_of s); report = length (report_of s) }))
    (Err OutputTooShort))

-- each buffer holds its text followed by its old contents, or its old contents alone
unfoldable pub kept_left : Result Sizes Refusal → List ℕ → List ℕ → List ℕ
kept_left (Ok n) s old = kept_of s ++ drop (length (kept_of s)) old
kept_left (Err r) s old = old

unfoldable pub report_left : Result Sizes Refusal → List ℕ → List ℕ → List ℕ
report_left (Ok n) s old = report_of s ++ drop (length (report_of s)) old
report_left (Err r) s old = old

-- the number that comes with an answer
abbrev pub rescued_numbers : Result Sizes Refusal → List ℕ
rescued_numbers (Ok n) = []
rescued_numbers (Err r) = numbers_of r
