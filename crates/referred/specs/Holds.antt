-- That what the lines of a sheet refer to is there, said of the lines alone (document 02 (k)). Assumes nothing.
use Rattle.std.specs.Prelude.{ℕ, suc, ◌≤◌, ◌≡◌, true, Some}
use mathlib.Core.List.{List, [], ◌∷◌, Memᴰ}
use Rattle.tables.specs.Tables.{affixes}
use Rattle.sheet.specs.Letters.{letters_of}
use Rattle.sheet.specs.Forms.{Entry, key, key_of}
use Rattle.sheet.specs.Lines.{starts_of}
use Rattle.referred.specs.Report.{fault_at}
use Rattle.referred.specs.declared.Finding.{Finding}

-- f is the `w` line of the infinitive that the link e names
pub record VerbLine (lines : List Entry) (e f : Entry) : Type 0 where
  pub there : Memᴰ f lines
  pub named : key f ≡ key_of 0x77 e.value

-- the infinitive of a link has a `w` line with v
abbrev pub HasVerb : List Entry → Entry → Type 0
HasVerb lines e = (f : Entry) × VerbLine lines e f × ((letters_of f.value).verb ≡ true)

-- the suffix of a kind line is one of the 25 texts
abbrev pub NamesText : Entry → Type 0
NamesText e = (t : List ℕ) × Memᴰ t affixes × (key e ≡ key_of 0x6B t)

-- the reference of the line e holds
pub record Holds (lines : List Entry) (e : Entry) : Type 0 where
  pub link : e.letter ≡ 0x6C → HasVerb lines e
  pub kind : e.letter ≡ 0x6B → NamesText e

-- every reference holds
abbrev pub AllHold : List Entry → Type 0
AllHold lines = (e : Entry) → Memᴰ e lines → Holds lines e

-- numbers that go up, the first at least n
abbrev pub Ascending : ℕ → List ℕ → Type 0
Ascending n [] = Unit {0}
Ascending n (x ∷ xs) = (n ≤ x) × Ascending (suc x) xs

-- f is a line of the sheet whose reference does not hold: a line begins at its place, and that is wrong with it
pub record IsFinding (s : List ℕ) (f : Finding) : Type 0 where
  pub begins : Memᴰ f.line (starts_of s)
  pub wrong : fault_at s f.line ≡ Some f.fault
