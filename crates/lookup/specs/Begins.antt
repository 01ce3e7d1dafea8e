-- Names of a first letter that begin alike: their lines stand together in a sheet, from one line's number up to another's.
-- Assumes nothing.
use Rattle.std.specs.Prelude.{ℕ, ◌-◌, ◌≤◌, ◌<◌, ◌≡◌, List, length, get_or}
use Rattle.std.specs.declared.cmp.Ordering.{Ordering}
use Rattle.std.specs.declared.cmp.Ordering.TheVariants.{Less, Equal, Greater}
use Rattle.sheet.specs.Forms.{key, key_of}
use Rattle.sheet.specs.Lines.{line_at}
use Rattle.sheet.specs.Keys.{headed}
use Rattle.lookup.specs.declared.begins.Range.{Range}
use Rattle.lookup.specs.declared.begins.Edge.{Edge}

-- how line number i stands to all lines of the letter whose names begin with head: equal if it is one of them
abbrev pub headed_at : List ℕ → List ℕ → ℕ → List ℕ → ℕ → Ordering
headed_at s starts letter head i = headed (key (line_at s (get_or starts i 0))) (key_of letter head)

-- the lines whose names begin with head are just those from number lo on and before number hi: the line before them stands below all
-- such lines, and the line behind them above. So lo and hi are settled
pub record Begun (s starts : List ℕ) (letter : ℕ) (head : List ℕ) (r : Range) : Type 0 where
  pub ordered : r.lo ≤ r.hi
  pub inside : r.hi ≤ length starts
  pub below : 0 < r.lo → headed_at s starts letter head (r.lo - 1) ≡ Less
  pub each : (i : ℕ) → r.lo ≤ i → i < r.hi → headed_at s starts letter head i ≡ Equal
  pub above : r.hi < length starts → headed_at s starts letter head r.hi ≡ Greater

-- lo is the number of the first line that does not stand below all such lines; line number top, if there is one, stands above them
pub record Edged (s starts : List ℕ) (letter : ℕ) (head : List ℕ) (r : Edge) : Type 0 where
  pub ordered : r.lo ≤ r.top
  pub inside : r.top ≤ length starts
  pub below : 0 < r.lo → headed_at s starts letter head (r.lo - 1) ≡ Less
  pub first : r.lo < length starts → headed_at s starts letter head r.lo ≡ Less → ⊥
  pub above : r.top < length starts → headed_at s starts letter head r.top ≡ Greater

-- hi is the number of the first line behind them, between lo and top
pub record Ended (s starts : List ℕ) (letter : ℕ) (head : List ℕ) (lo top hi : ℕ) : Type 0 where
  pub from : lo ≤ hi
  pub upto : hi ≤ top
  pub last : lo < hi → headed_at s starts letter head (hi - 1) ≡ Greater → ⊥
  pub above : hi < top → headed_at s starts letter head hi ≡ Greater
