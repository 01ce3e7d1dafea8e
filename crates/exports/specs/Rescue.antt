-- What the rescue of a torn sheet gives, as a code. Assumes nothing.
use Rattle.refusals.specs.declared.Refusal.{Refusal}
use Rattle.std.specs.Prelude.{ℕ, ◌+◌, ◌*◌, ◌<◌, Err, Ok, Result}
use Rattle.sheet.specs.Inputs.{Placed}
use Rattle.rescued.specs.declared.entry.Sizes.{Sizes}
use Rattle.exports.specs.Codes.{answered, refusal_code}

-- how many bytes were written: 24 bits for the kept sheet, above them the report's
abbrev pub sizes_code : Sizes → ℕ
sizes_code z = answered (z.kept + 16777216 * z.report)

abbrev pub rescued_code : Result Sizes Refusal → ℕ
rescued_code (Ok z) = sizes_code z
rescued_code (Err r) = refusal_code r

-- each number fits its bits, and the place of a refusal
abbrev pub Sized : Sizes → Type 0
Sized z = (z.kept < 16777216) × (z.report < 4294967296)

abbrev pub Fitting : Result Sizes Refusal → Type 0
Fitting (Ok z) = Sized z
Fitting (Err r) = Placed r
