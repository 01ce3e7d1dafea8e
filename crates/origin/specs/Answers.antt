-- What the entries of origin hand back for any word and any sheet (document 01, "What an entry hands back"). Assumes nothing.
use Rattle.origin.specs.declared.OriginDecision.{OriginDecision}
use Rattle.tables.specs.declared.origins.Origin.{Origin}
use Rattle.refusals.specs.declared.Refusal.{Refusal}
use Rattle.std.specs.Prelude.{ℕ, List, [], Err, Ok, Result}
use Rattle.refusals.specs.Refusals.{numbers_of}
use Rattle.sheet.specs.Inputs.{inputs_of}
use Rattle.sheet.specs.Replies.{reply}
use Rattle.origin.specs.Decisions.{decision_of}

-- the decision, where word and sheet are accepted
abbrev pub decision_if : Result (Unit {0}) Refusal → List ℕ → List ℕ → Result OriginDecision Refusal
decision_if (Ok _) word sheet = Ok (decision_of (reply sheet) word)
decision_if (Err r) word sheet = Err r

unfoldable pub decision_answer : List ℕ → List ℕ → Result OriginDecision Refusal
decision_answer word sheet = decision_if (inputs_of word sheet) word sheet

-- the decision's origin alone
abbrev pub origin_only : Result OriginDecision Refusal → Result Origin Refusal
origin_only (Ok d) = Ok d.origin
origin_only (Err r) = Err r

-- document 01's number of each answer, none where one is given
abbrev pub decision_numbers : Result OriginDecision Refusal → List ℕ
decision_numbers (Ok d) = []
decision_numbers (Err r) = numbers_of r

abbrev pub classify_numbers : Result Origin Refusal → List ℕ
classify_numbers (Ok o) = []
classify_numbers (Err r) = numbers_of r
