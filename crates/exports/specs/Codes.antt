-- How the static library's functions give their answers as numbers: the lowest byte of a code is the number of a refusal, 0 for an
-- answer; above it stand the place that comes with a refusal, or the answer's value. Assumes nothing.
use Rattle.origin.specs.declared.OriginDecision.{OriginDecision}
use Rattle.std.specs.Prelude.{ℕ, ◌+◌, ◌*◌, ◌≤◌, Bool, true, false, List, [], ◌∷◌, Float, Err, Ok, Result, Option, Some, None}
use Rattle.refusals.specs.Refusals.{numbers_of}
use Rattle.refusals.specs.declared.Refusal.{Refusal}
use Rattle.text.specs.declared.word.WordFault.{WordFault}
use Rattle.tables.specs.declared.origins.Origin.{Origin}
use Rattle.tables.specs.declared.origins.Origin.TheVariants.{Tatsam, Tadbhav, Deshaj, Aagantuk}
use Rattle.sheet.specs.Inputs.{of_word, by_sheet, numbers_given, Placed}
use Rattle.sheet.specs.declared.check.SheetFault.{SheetFault}
use Rattle.progressive.specs.declared.find.Progressive.{Progressive}
use Rattle.origin.specs.Decisions.{none}
use Rattle.origin.specs.declared.OriginSource.{OriginSource}
use Rattle.origin.specs.declared.OriginSource.TheVariants.{Override, Kosha, Heuristic, Unknown}

-- a number alone, or with its place above it; 0 for none
abbrev pub coded : List ℕ → ℕ
coded [] = 0
coded (n ∷ []) = n
coded (n ∷ at ∷ more) = n + 256 * at

-- an answer's value
abbrev pub answered : ℕ → ℕ
answered value = 256 * value

abbrev pub word_code : Result (Unit {0}) WordFault → ℕ
word_code c = coded (numbers_given (of_word c))

abbrev pub sheet_code : Result (Unit {0}) SheetFault → ℕ
sheet_code c = coded (numbers_given (by_sheet c))

abbrev pub refusal_code : Refusal → ℕ
refusal_code r = coded (numbers_of r)

-- the value of a yes is 1, of a no 0
abbrev pub bit : Bool → ℕ
bit true = 1
bit false = 0

-- the value of a form: 0 for none; else bit 0, the sign in bit 1, and where the main form ends, how long the lemma's name is and where
-- it stands from bits 2, 10 and 18 on
abbrev pub form_value : Option Progressive → ℕ
form_value None = 0
form_value (Some f) = 1 + 2 * bit f.negative + 4 * f.main_end + 1024 * f.lemma_len + 262144 * f.lemma_at

abbrev pub progressive_code : Result (Option Progressive) Refusal → ℕ
progressive_code (Err r) = refusal_code r
progressive_code (Ok form) = answered (form_value form)

-- yes or no
abbrev pub yes_code : Result Bool Refusal → ℕ
yes_code (Ok b) = answered (bit b)
yes_code (Err r) = refusal_code r

-- the place of a refusal is small enough for the code
abbrev pub PlacedIn : {A : Type 0} → Result A Refusal → Type 0
PlacedIn (Ok _) = Unit {0}
PlacedIn (Err r) = Placed r

-- how much was written, or why nothing was
abbrev pub written_code : Result ℕ Refusal → ℕ
written_code (Ok n) = answered n
written_code (Err r) = refusal_code r

-- the pieces visited
abbrev pub visits_code : Result ℕ Refusal → ℕ
visits_code visits = written_code visits

-- the bytes or numbers written, or the place of the faulty line, are small enough for the code
abbrev pub most_written : ℕ
most_written = 1048576

abbrev pub Small : Result ℕ Refusal → Type 0
Small (Ok n) = n ≤ most_written
Small (Err r) = Placed r

abbrev pub origin_number : Origin → ℕ
origin_number Tatsam = 0
origin_number Tadbhav = 1
origin_number Deshaj = 2
origin_number Aagantuk = 3

abbrev pub source_number : OriginSource → ℕ
source_number Override = 0
source_number Kosha = 1
source_number Heuristic = 2
source_number Unknown = 3

-- the value of a decision: the origin in bits 0 and 1, the source in bits 2 and 3
abbrev pub origin_code : Result OriginDecision Refusal → ℕ
origin_code (Ok d) = answered (origin_number d.origin + 4 * source_number d.source)
origin_code (Err r) = refusal_code r

-- how surely the origin is known; 0.0 for a refused word or sheet
abbrev pub confidence_of : Result OriginDecision Refusal → Float
confidence_of (Ok d) = d.confidence
confidence_of (Err r) = none
