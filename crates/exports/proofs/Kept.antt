-- What is stored of the rows that the walk has kept. The proofs of `rows` cite these. Assumes nothing.
use Rattle.std.specs.Prelude.{Err, Ok, Result}
use Prim.Native.Nat.{ℕ}
use mathlib.Core.Path.{◌≡◌, refl, ap, ◌∙◌}
use mathlib.Core.List.{List, map}
use Rattle.refusals.specs.declared.Refusal.{Refusal}
use Rattle.refusals.specs.declared.Refusal.TheVariants.{TooManyReadings}
use Rattle.sheet.specs.Inputs.{inputs_of}
use Rattle.sheet.specs.Replies.{reply}
use Rattle.ranking.specs.declared.Reading.{Reading}
use Rattle.ranking.specs.Lists.{Rows, rows, over}
use Rattle.paths.specs.Readings.{classified}
use Rattle.analysis.specs.Answers.{collected, listed_rows, said_by, rows_by, said_of, rows_given}
use Rattle.exports.specs.Codes.{refusal_code}
use Rattle.exports.specs.Rows.{Filled, row_bytes, row_width, rows_filled, readings_if, readings_filled}

module _ (w s out : List ℕ) where
  -- by what is said of word and sheet, and what the walk has kept
  readings_by : Result (Unit {0}) Refusal → Rows → Filled
  readings_by i c = readings_if (said_by i c) (rows_by i (listed_rows (reply s) w c)) out

  filled-by : readings_by (inputs_of w s) (collected w s) ≡ readings_filled w s out
  unfolding readings_by readings_filled said_of rows_given
  filled-by = refl

  pub filled-refused : (r : Refusal) → Err r ≡ inputs_of w s → record { code = refusal_code r; buffer = out } ≡ readings_filled w s out
  unfolding readings_by
  filled-refused r e = ap (λ (i : Result (Unit {0}) Refusal). readings_by i (collected w s)) e ∙ filled-by

  module _ (a : (Ok tt) ≡ inputs_of w s) where
    pub filled-over : over ≡ collected w s → record { code = refusal_code TooManyReadings; buffer = out } ≡ readings_filled w s out
    unfolding readings_by
    filled-over e = ap (readings_by (Ok tt)) e ∙ ap (λ (i : Result (Unit {0}) Refusal). readings_by i (collected w s)) a ∙ filled-by

    pub filled-rows : (kept : List Reading) → rows kept ≡ collected w s → rows_filled row_width row_bytes (map (classified (reply s) w) kept) out ≡ readings_filled w s out
    unfolding readings_by
    filled-rows kept e = ap (readings_by (Ok tt)) e ∙ ap (λ (i : Result (Unit {0}) Refusal). readings_by i (collected w s)) a ∙ filled-by
