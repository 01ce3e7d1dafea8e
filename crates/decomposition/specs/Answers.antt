-- What the entry of decompose hands back for any word and any sheet (document 01, "What an entry hands back"). Assumes nothing.
use Rattle.refusals.specs.declared.Refusal.{Refusal}
use Rattle.std.specs.Prelude.{ℕ, List, Err, Ok, Result}
use Rattle.sheet.specs.Replies.{reply}
use Rattle.sheet.specs.Inputs.{inputs_of}
use Rattle.decomposition.specs.declared.Morpheme.{Morpheme}
use Rattle.decomposition.specs.Parts.{morpheme_of}

-- the decomposition, where word and sheet are accepted
abbrev pub morpheme_if : Result (Unit {0}) Refusal → List ℕ → List ℕ → Result Morpheme Refusal
morpheme_if (Ok _) word sheet = Ok (morpheme_of (reply sheet) word)
morpheme_if (Err r) word sheet = Err r

unfoldable pub morpheme_answer : List ℕ → List ℕ → Result Morpheme Refusal
morpheme_answer word sheet = morpheme_if (inputs_of word sheet) word sheet
