-- Texts put into a lent buffer. Assumes nothing.
use Rattle.refusals.specs.declared.Refusal.{Refusal}
use Rattle.std.specs.Prelude.{ℕ, ◌+◌, ◌≤◌, min, ◌≡◌, List, ◌++◌, length, take, drop, Result}
use Rattle.refusals.specs.Refusals.{room_for, output_by}

-- the largest number, at which places stop growing
abbrev pub largest : ℕ
largest = 18446744073709551615

-- `old` with the text put in at byte `at`
unfoldable pub placed : List ℕ → ℕ → List ℕ → List ℕ
placed old at text = take at old ++ (text ++ drop (at + length text) old)

-- what putting a text at `at` has done: the place after it is `next`, and where the text fits in, it stands there and nothing else
-- has changed. So the same functions tell how long a text is, and write it
pub record Wrote (old new : List ℕ) (at next : ℕ) (text : List ℕ) : Type 0 where
  pub end : next ≡ min (at + length text) largest
  pub size : length new ≡ length old
  pub there : at + length text ≤ largest → at + length text ≤ length old → new ≡ placed old at text

-- what is given for a text: the number of its bytes, or that the buffer is shorter
abbrev pub written_of : List ℕ → List ℕ → Result ℕ Refusal
written_of text out = room_for (length text) (length out)

-- and what the buffer holds then: the text at its front and the rest as before, or all as before
abbrev pub text_over : List ℕ → List ℕ → List ℕ
text_over text out = output_by (written_of text out) text out

-- what an entry that writes a text gives, and what it leaves in the buffer
pub record Answer (text old new : List ℕ) (r : Result ℕ Refusal) : Type 0 where
  pub given : r ≡ written_of text old
  pub left : new ≡ text_over text old

-- a text written whole at the front of a buffer, of which r counts its bytes. The last two parts follow from the first two; a caller
-- that lends the front of the buffer asks for them
pub record Whole (text old new : List ℕ) (r : ℕ) : Type 0 where
  pub size : r ≡ length text
  pub contents : new ≡ text ++ drop r old
  pub inside : r ≤ length new
  pub counted : r ≡ length (take r new)
