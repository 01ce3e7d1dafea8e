-- What the entries hand back and leave, from what is said of the list and what its rows fill. Assumes nothing.
use Rattle.std.specs.Prelude.{Err, Ok, Result}
use Prim.Native.Nat.{ℕ}
use mathlib.Core.Path.{◌≡◌, refl, sym}
use mathlib.Core.List.{List}
use lib.ListN.{length}
use Rattle.refusals.specs.Refusals.{room_for, output_by}
use Rattle.refusals.specs.declared.Refusal.{Refusal}
use Rattle.sheet.specs.Inputs.{inputs_of}
use Rattle.ranking.specs.declared.Classified.{Classified}
use Rattle.analysis.specs.Answers.{said_of, rows_given}
use Rattle.roots.specs.declared.RootCandidate.{RootCandidate}
use Rattle.roots.specs.Answers.{roots_for}
use Rattle.filled.specs.Filled.{filled_of, output_of}
use Rattle.filled.specs.FilledRoots.{roots_filled, roots_output}

module _ (w s : List ℕ) (old : List Classified) where
  pub refused : (r : Refusal) → said_of w s ≡ Err r → (Err r ≡ filled_of w s (length old)) × (old ≡ output_of w s old)
  unfolding filled_of output_of
  refused r e = rw e (refl, refl)

  pub filled : (f : Result ℕ Refusal) (rows new : List Classified) → said_of w s ≡ Ok (tt {0}) → rows ≡ rows_given w s
      → f ≡ room_for (length rows) (length old) → new ≡ output_by f rows old → (f ≡ filled_of w s (length old)) × (new ≡ output_of w s old)
  unfolding filled_of output_of
  filled f rows new e g p q = rw (e, sym g) (p, rw p at q)

module _ (w s : List ℕ) (old : List RootCandidate) where
  pub roots_refused : (r : Refusal) → inputs_of w s ≡ Err r → (Err r ≡ roots_filled w s (length old)) × (old ≡ roots_output w s old)
  unfolding roots_filled roots_output
  roots_refused r e = rw e (refl, refl)

  pub roots_wrote : (f : Result ℕ Refusal) (rows new : List RootCandidate) → inputs_of w s ≡ Ok (tt {0}) → rows ≡ roots_for w s
      → f ≡ room_for (length rows) (length old) → new ≡ output_by f rows old → (f ≡ roots_filled w s (length old)) × (new ≡ roots_output w s old)
  unfolding roots_filled roots_output
  roots_wrote f rows new e g p q = rw (e, sym g) (p, rw p at q)
