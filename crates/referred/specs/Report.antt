-- What the lines of a sheet refer to, what does not hold of it, and the report (document 02 (k)). Assumes nothing.
use Rattle.std.specs.Prelude.{ℕ, Bool, false, ◌||◌, List, [], ◌∷◌, ◌++◌, length, eqb, Option, Some, None}
use Rattle.runs.specs.Runs.{pick, same_text}
use Rattle.tables.specs.Tables.{affixes}
use Rattle.sheet.specs.Letters.{letters_of}
use Rattle.sheet.specs.Forms.{Entry, key, key_of}
use Rattle.sheet.specs.Lines.{starts_of, line_at}
use Rattle.sheet.specs.Replies.{Ask, Reply, unknown, told, reply}
use Rattle.writing.specs.Decimal.{decimal}
use Rattle.referred.specs.declared.Fault.{Fault}
use Rattle.referred.specs.declared.Fault.TheVariants.{Missing, NotVerb, Unused}
use Rattle.referred.specs.declared.Finding.{Finding}

-- a link: the infinitive has no `w` line, or its line lacks v
abbrev pub verb_fault : Reply → Option Fault
verb_fault unknown = Some Missing
verb_fault (told v) = pick (letters_of v).verb None (Some NotVerb)

-- the key of a kind line is that of one of the texts: names are equal as a question and a name are
unfoldable pub is_text : List ℕ → List (List ℕ) → Bool
is_text k [] = false
is_text k (t ∷ ts) = same_text k (key_of 0x6B t) || is_text k ts

-- what is wrong with what a line refers to, nothing for none: with the infinitive of an `l` line, with the suffix of a `k` line
unfoldable pub fault_of : Ask → Entry → Option Fault
fault_of ask e =
    pick (eqb e.letter 0x6C) (verb_fault (ask 0x77 e.value))
    (pick (eqb e.letter 0x6B) (pick (is_text (key e) affixes) None (Some Unused))
    None)

-- of the line that begins at byte `at`
abbrev pub fault_at : List ℕ → ℕ → Option Fault
fault_at s at = fault_of (reply s) (line_at s at)

-- a line whose reference does not hold, by its first byte and what is wrong, if anything is
abbrev pub found : ℕ → Option Fault → List Finding
found at None = []
found at (Some f) = record { line = at; fault = f } ∷ []

-- those among the lines that begin at the places given
unfoldable pub findings_at : List ℕ → List ℕ → List Finding
findings_at s [] = []
findings_at s (at ∷ rest) = found at (fault_at s at) ++ findings_at s rest

-- those of the sheet, in its order
abbrev pub findings_of : List ℕ → List Finding
findings_of s = findings_at s (starts_of s)

-- (l LINK missing), (l LINK notverb), (k SUFFIX unused): what stands before the name and behind it, with 0A
abbrev pub before : Fault → List ℕ
before Missing = 0x28 ∷ 0x6C ∷ 0x20 ∷ []
before NotVerb = 0x28 ∷ 0x6C ∷ 0x20 ∷ []
before Unused = 0x28 ∷ 0x6B ∷ 0x20 ∷ []

abbrev pub behind : Fault → List ℕ
behind Missing = 0x20 ∷ 0x6D ∷ 0x69 ∷ 0x73 ∷ 0x73 ∷ 0x69 ∷ 0x6E ∷ 0x67 ∷ 0x29 ∷ 0x0A ∷ []
behind NotVerb = 0x20 ∷ 0x6E ∷ 0x6F ∷ 0x74 ∷ 0x76 ∷ 0x65 ∷ 0x72 ∷ 0x62 ∷ 0x29 ∷ 0x0A ∷ []
behind Unused = 0x20 ∷ 0x75 ∷ 0x6E ∷ 0x75 ∷ 0x73 ∷ 0x65 ∷ 0x64 ∷ 0x29 ∷ 0x0A ∷ []

-- the line of a finding: the name is the sheet's own
unfoldable pub finding_line : List ℕ → Finding → List ℕ
finding_line s f = before f.fault ++ ((line_at s f.line).name ++ behind f.fault)

unfoldable pub finding_lines : List ℕ → List Finding → List ℕ
finding_lines s [] = []
finding_lines s (f ∷ fs) = finding_line s f ++ finding_lines s fs

-- (check N), 0A and the lines
unfoldable pub report_text : List ℕ → List ℕ
report_text s =
    (0x28 ∷ 0x63 ∷ 0x68 ∷ 0x65 ∷ 0x63 ∷ 0x6B ∷ 0x20 ∷ [])
    ++ (decimal (length (findings_of s))
    ++ ((0x29 ∷ 0x0A ∷ []) ++ finding_lines s (findings_of s)))
