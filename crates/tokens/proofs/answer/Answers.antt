-- `tokens::answer` meets its contract: what it reads is the text's front, what it writes is what is printed of it. Assumes nothing.
use mathlib.Core.Path.{ap, ◌∙◌}
use Rattle.intake.proofs.Told.{told_of, whole_front}
use Rattle.tokens.specs.Printed.{printed}
use Rattle.tokens.proofs.Front.{printed_front}
use Rattle.tokens.proofs.answer.Goals as goal

pub returns : goal.returns
returns g c =
    told_of c.write_all.result _ _ _ printed 65537 c.write_all.ensures.bytes
    (whole_front c.answer_of-size.ensures.0 ∙ ap printed c.deref.ensures.value) c.in_ok-text.ensures printed_front
