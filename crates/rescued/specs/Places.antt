-- The walk over the stretches by places. Assumes nothing.
use Rattle.std.specs.Prelude.{ℕ, ◌+◌, ◌≤◌, ◌<◌, min, ◌≡◌, List, ◌∷◌, length, drop, Option, Some, None}
use Rattle.std.proofs.Props.{props}
use Rattle.runs.specs.Bytes.{index_of}
use Rattle.sheet.specs.Walks.{key_before, Standing, starts_ahead}
use Rattle.sheet.specs.declared.walk.Walk.{Walk}
use Rattle.sheet.specs.declared.line.LineFault.{LineFault}
use Rattle.rescued.specs.declared.walk.Reach.{Reach}
use Rattle.rescued.specs.Stretches.{Stretch, stretches_from}

-- where the stretch that begins at `at` ends: behind its 0A, or with the input
abbrev pub line_end : List ℕ → ℕ → ℕ
line_end s at = min (at + index_of 0x0A (drop at s) + 1) (length s)

-- a stretch that is dropped, and the walk from behind it
abbrev pub dropped_at : List ℕ → Walk → LineFault → Reach
dropped_at s w fault = record { fault = Some fault; next = record { at = line_end s w.at; last = w.last } }

-- the stretches from the walk's place on
abbrev pub ahead : List ℕ → Walk → List Stretch
ahead s w = stretches_from s (key_before s w.last) (starts_ahead s w)

-- one stretch was passed: the stretches to come are this one and those from behind it on
pub record Stepped (s : List ℕ) (w : Walk) (r : Reach) : Type 0 where
  pub further : w.at < r.next.at
  pub inside : r.next.at ≤ length s
  pub standing : Standing s r.next.last
  pub passed : ahead s w ≡ record { start = w.at; end = r.next.at; fault = r.fault } ∷ ahead s r.next

-- that a form stands at the last line has one proof at most, so that a struct can hold it
pub Standing-prop : (s : List ℕ) (last : Option ℕ) → IsProp (Standing s last)
Standing-prop s None = Prim.hlevel props
Standing-prop s (Some at) = Prim.hlevel props
