-- The number of each refusal (document 01, "What an entry hands back"), the place that comes with it, and which of several is the lowest.
-- Assumes nothing.
use Rattle.std.specs.Prelude.{ℕ, ◌<◌, Bool, true, false, List, [], ◌∷◌, ◌++◌, length, drop, leb, Err, Ok, Result, Option, Some, None, option_to_list}
use Rattle.runs.specs.Runs.{pick}
use Rattle.refusals.specs.declared.Refusal.{Refusal}
use Rattle.refusals.specs.declared.Refusal.TheVariants.{WordTooLong, WordNotUtf8, WordForbidden, SheetTooLong, SheetNoForm, SheetNotAbove, TooManyReadings, OutputTooShort, TextTooLong, TextNotUtf8, ListTooShort, NoSingleForm, NothingToWithdraw, NoRoom}

-- document 01's number of each cause, and then document 02's
abbrev pub number : Refusal → ℕ
number WordTooLong = 1
number WordNotUtf8 = 2
number WordForbidden = 3
number SheetTooLong = 4
number (SheetNoForm at) = 5
number (SheetNotAbove at) = 6
number TooManyReadings = 7
number OutputTooShort = 8
number TextTooLong = 9
number TextNotUtf8 = 2
number ListTooShort = 10
number NoSingleForm = 11
number NothingToWithdraw = 12
number NoRoom = 13

-- the place that comes with it: for 5 and 6 the faulty line's first byte
abbrev pub place_of : Refusal → Option ℕ
place_of WordTooLong = None
place_of WordNotUtf8 = None
place_of WordForbidden = None
place_of SheetTooLong = None
place_of (SheetNoForm at) = Some at
place_of (SheetNotAbove at) = Some at
place_of TooManyReadings = None
place_of OutputTooShort = None
place_of TextTooLong = None
place_of TextNotUtf8 = None
place_of ListTooShort = None
place_of NoSingleForm = None
place_of NothingToWithdraw = None
place_of NoRoom = None

abbrev pub places : Refusal → List ℕ
places r = option_to_list (place_of r)

-- the number, and then the place
abbrev pub numbers_of : Refusal → List ℕ
numbers_of r = number r ∷ places r

-- the number and place that come with what was written: none where all was
abbrev pub written_numbers : Result ℕ Refusal → List ℕ
written_numbers (Ok n) = []
written_numbers (Err r) = numbers_of r

-- what is handed back for an answer of so much and a lent output with so much room
abbrev pub room_for : ℕ → ℕ → Result ℕ Refusal
room_for size room = pick (leb size room) (Ok size) (Err OutputTooShort)

-- what a lent output holds then: the answer followed by its old contents, or its old contents alone
abbrev pub output_by : {A : Type 0} → Result ℕ Refusal → List A → List A → List A
output_by (Ok n) answer old = answer ++ drop (length answer) old
output_by (Err r) answer old = old

-- every place of a refusal lies before byte `top`
abbrev pub Before : ℕ → List ℕ → Type 0
Before top [] = Unit {0}
Before top (at ∷ more) = (at < top) × Before top more

-- a cause, where its test says that it applies
abbrev pub cause_if : Bool → Refusal → List Refusal
cause_if b r = pick b (r ∷ []) []

-- of the refusals that apply, one whose number is the lowest: of two with the same number the earlier
abbrev pub lower : Bool → Refusal → Refusal → Refusal
lower true r q = r
lower false r q = q

abbrev pub lowest_of : Refusal → List Refusal → Refusal
lowest_of r [] = r
lowest_of r (q ∷ rest) = lowest_of (lower (leb (number r) (number q)) r q) rest

-- its number and place; nothing where none applies
abbrev pub lowest_numbers_of : List Refusal → List ℕ
lowest_numbers_of [] = []
lowest_numbers_of (r ∷ rest) = numbers_of (lowest_of r rest)

-- the first numbers, or where there are none the others
abbrev pub or_else : List ℕ → List ℕ → List ℕ
or_else [] others = others
or_else (n ∷ ns) others = n ∷ ns
