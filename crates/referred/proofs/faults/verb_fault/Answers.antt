-- `faults::verb_fault` meets its contract: whether the verb has a line, and whether that has v. Assumes nothing.
use mathlib.Core.Path.{ap}
use Rattle.lookup.specs.Answers.{ValueOf}
use Rattle.lookup.proofs.Parts.{one-part, unread}
use Rattle.referred.specs.Report.{verb_fault}
use Rattle.referred.proofs.Refers.{verb_read}
use Rattle.referred.proofs.faults.verb_fault.Goals as goal
use Rattle.referred.proofs.faults.verb_fault.Goals.{After-value_of}

-- what is said of the value found
value : (c : After-value_of) →
    let a = c.args in
    ValueOf a.sheet.now.bytes.now 0x77 a.infinitive.now c.value_of.result
value c =
    let a = c.args in
    one-part a.sheet.now.bytes.now 0x77 a.infinitive.now _ c.value_of.ensures

pub returns-in_default : goal.returns-in_default
returns-in_default c =
    ap verb_fault (unread _ 0x77 _ _ (value (goal.at.returns-in_default c).After-value_of) c.in_default.is)

pub returns-then-letters : goal.returns-then-letters
returns-then-letters c =
    verb_read _ _ _ (value (goal.at.returns-then-letters c).After-value_of) _ c.in-Some.is _ _ c.read_letters-letters.ensures c.if-letters.true

pub returns : goal.returns
returns c =
    verb_read _ _ _ (value (goal.at.returns c).After-value_of) _ c.in-Some.is _ _ c.read_letters-letters.ensures c.if-letters.false
