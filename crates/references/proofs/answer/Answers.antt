-- `references::answer` meets its contract: what it reads is the sheet's front, what it writes is what is printed of it. Assumes nothing.
use mathlib.Core.Path.{ap, ◌∙◌}
use Rattle.intake.proofs.Told.{told_of, whole_front}
use Rattle.referred.specs.Answers.{printed}
use Rattle.references.proofs.Front.{printed_front}
use Rattle.references.proofs.answer.Goals as goal

pub returns : goal.returns
returns g c =
    told_of c.write_all.result _ _ _ printed 65537 c.write_all.ensures.bytes
    (whole_front c.answer_of-size.ensures ∙ ap printed c.deref.ensures.value) c.in_ok-sheet.ensures printed_front
