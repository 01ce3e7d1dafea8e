-- The number of an outcome is the lowest that applies: 1 to 7 of word, sheet and list, then 8 of the buffer. Assumes nothing.
use Rattle.std.specs.Prelude.{Err, Ok, Result}
use Rattle.refusals.specs.declared.Refusal.{Refusal}
use Prim.Native.Nat.{ℕ}
use mathlib.Core.Path.{◌≡◌, refl}
use mathlib.Core.List.{List}
use lib.ListN.{length}
use lib.Dec.{ltb}
use Rattle.refusals.specs.Refusals.{written_numbers, cause_if, lowest_numbers_of, or_else}
use Rattle.refusals.specs.declared.Refusal.TheVariants.{OutputTooShort}
use Rattle.refusals.proofs.Outputs.{room_lowest}
use Rattle.analysis.specs.Answers.{said_of, rows_given, said_numbers}
use Rattle.writing.specs.Placed.{written_of}
use Rattle.listing.specs.Texts.{listing_text}
use Rattle.listing.specs.Printed.{outcome_by, outcome_of}

pub outcome_lowest : (w s out : List ℕ)
    → written_numbers (outcome_of w s out)
    ≡ or_else (said_numbers (said_of w s)) (lowest_numbers_of (cause_if (ltb (length out) (length (listing_text w (rows_given w s)))) OutputTooShort))
unfolding outcome_of
outcome_lowest w s out = by (said_of w s)
  where
    by : (a : Result (Unit {0}) Refusal) → written_numbers (outcome_by a (written_of (listing_text w (rows_given w s)) out))
        ≡ or_else (said_numbers a) (lowest_numbers_of (cause_if (ltb (length out) (length (listing_text w (rows_given w s)))) OutputTooShort))
    by (Ok _) = room_lowest (length (listing_text w (rows_given w s))) (length out)
    by (Err r) = refl
