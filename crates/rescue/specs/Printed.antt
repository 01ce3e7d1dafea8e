-- What the program prints of a torn sheet, and what it tells on standard error. Assumes nothing.
use Rattle.std.specs.Prelude.{ℕ, List, [], length, ltb}
use Rattle.runs.specs.Runs.{pick}
use Rattle.refusals.specs.Refusals.{numbers_of}
use Rattle.refusals.specs.declared.Refusal.TheVariants.{SheetTooLong}
use Rattle.sheet.specs.Limits.{sheet_limit}
use Rattle.writing.specs.Refused.{refused_text}
use Rattle.rescued.specs.Stretches.{kept_of, report_of}

-- the kept sheet; nothing of a sheet over its limit
unfoldable pub kept_printed : List ℕ → List ℕ
kept_printed s = pick (ltb sheet_limit (length s)) [] (kept_of s)

-- the report, or the line of the refusal
unfoldable pub report_told : List ℕ → List ℕ
report_told s = pick (ltb sheet_limit (length s)) (refused_text (numbers_of SheetTooLong)) (report_of s)
