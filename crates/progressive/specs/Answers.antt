-- What the entries hand back (document 01, "What an entry hands back"): the refusal of word and sheet, or what was found. Assumes nothing.
use Rattle.refusals.specs.declared.Refusal.{Refusal}
use Rattle.std.specs.Prelude.{ℕ, ◌≡◌, List, [], Bool, Err, Ok, Result, Option, None}
use Rattle.std.specs.Result.{result_unwrap_or}
use Rattle.refusals.specs.Refusals.{numbers_of}
use Rattle.sheet.specs.Inputs.{inputs_of, lowest_numbers}
use Rattle.sheet.specs.Replies.{reply}
use Rattle.progressive.specs.declared.find.Progressive.{Progressive}
use Rattle.progressive.specs.Progressive.{progressive_of, is_progressive}
use Rattle.progressive.specs.Found.{form_of, lemma_name, part_at, LiesIn}

-- the form, or none, where word and sheet are accepted
abbrev pub answer_if : Result (Unit {0}) Refusal → List ℕ → List ℕ → Result (Option Progressive) Refusal
answer_if (Ok _) w s = Ok (form_of s w (progressive_of (reply s) w))
answer_if (Err r) w s = Err r

-- what is given for the word w and the sheet s
unfoldable pub answer_of : List ℕ → List ℕ → Result (Option Progressive) Refusal
answer_of w s = answer_if (inputs_of w s) w s

-- document 01's number of each answer with its value, none where a form is given
abbrev pub answer_numbers : Result (Option Progressive) Refusal → List ℕ
answer_numbers (Err r) = numbers_of r
answer_numbers (Ok form) = []

-- the form that is given, none for a refusal
abbrev pub form_given : Result (Option Progressive) Refusal → Option Progressive
form_given r = result_unwrap_or r None

-- the part of the sheet that holds the lemma's name, empty for none and for a refusal
abbrev pub lemma_part : List ℕ → Result (Option Progressive) Refusal → List ℕ
lemma_part s a = part_at s (form_given a)

-- the name itself, as the definition of the search has it
abbrev pub name_if : Result (Unit {0}) Refusal → List ℕ → List ℕ → List ℕ
name_if (Ok _) w s = lemma_name (progressive_of (reply s) w)
name_if (Err r) w s = []

unfoldable pub lemma_text : List ℕ → List ℕ → List ℕ
lemma_text w s = name_if (inputs_of w s) w s

-- a form that is given has its places in word and sheet
abbrev pub Lies : List ℕ → List ℕ → Result (Option Progressive) Refusal → Type 0
Lies w s (Err r) = Unit {0}
Lies w s (Ok form) = LiesIn w s form

-- what the analysis gives: the answer, with the lemma's name read where it says, and the lowest number that applies
pub record Analyzed (w s : List ℕ) (r : Result (Option Progressive) Refusal) : Type 0 where
  pub settled : r ≡ answer_of w s
  pub reads : lemma_part s r ≡ lemma_text w s
  pub lies : Lies w s r
  pub numbers : answer_numbers r ≡ lowest_numbers w s

-- whether the word is a supported progressive form, where word and sheet are accepted
abbrev pub supported_if : Result (Unit {0}) Refusal → List ℕ → List ℕ → Result Bool Refusal
supported_if (Ok _) w s = Ok (is_progressive (reply s) w)
supported_if (Err r) w s = Err r

unfoldable pub supported_of : List ℕ → List ℕ → Result Bool Refusal
supported_of w s = supported_if (inputs_of w s) w s

-- document 01's number of each answer, none where one is given
abbrev pub supported_numbers : Result Bool Refusal → List ℕ
supported_numbers (Err r) = numbers_of r
supported_numbers (Ok b) = []
