-- Where a line stands in a sheet, or would stand: what an edit changes there. Assumes nothing.
use Rattle.refusals.specs.declared.Refusal.{Refusal}
use Rattle.std.specs.Prelude.{ℕ, ◌+◌, ◌≤◌, ◌<◌, ◌≡◌, List, ◌++◌, length, take, drop, Err, Ok, Result, Option, Some, None}
use Rattle.runs.specs.Runs.{pick}
use Rattle.sheet.specs.Forms.{Entry, entry_of, written, key}
use Rattle.sheet.specs.Lines.{lines_of}
use Rattle.sheet.specs.Replies.{unknown, reply_in}
use Rattle.corrected.specs.Sets.{is_single, without, having, afresh}
use Rattle.corrected.specs.declared.place.Span.{Span}
use Rattle.corrected.specs.declared.place.Given.{Given}

-- the line with the key q stands from byte `from` up to byte `to`, or would stand there where the two are equal
pub record Spanned (s q : List ℕ) (r : Span) : Type 0 where
  pub ordered : r.from ≤ r.to
  pub inside : r.to ≤ length s
  pub put : (e : Entry) → key e ≡ q → afresh (having e (lines_of s)) ≡ take r.from s ++ (written e ++ drop r.to s)
  pub gone : afresh (without q (lines_of s)) ≡ take r.from s ++ drop r.to s
  pub lone : r.from ≡ r.to → reply_in (lines_of s) q ≡ unknown
  pub held : r.from < r.to → reply_in (lines_of s) q ≡ unknown → ⊥

-- what a given line is, where it is a single form: its first letter and where its name ends
unfoldable pub given_of : List ℕ → Option Given
given_of line = pick (is_single line) (Some (record { letter = (entry_of line).letter; name_end = 3 + length (entry_of line).name })) None

-- what is found for a given line in a sheet of which i is said: the refusal, or where its line stands
abbrev pub Opens : Result (Unit {0}) Refusal → List ℕ → List ℕ → Result Span Refusal → Type 0
Opens i s line (Err r) = i ≡ Err r
Opens i s line (Ok span) = (i ≡ Ok tt) × (written (entry_of line) ≡ line) × Spanned s (key (entry_of line)) span
