-- `readings::answer` meets its contract: what it reads is the input's front, what it writes is what is printed for it. Assumes nothing.
use mathlib.Core.Path.{ap, ◌∙◌}
use Rattle.intake.proofs.Told.{told_of, whole_front}
use Rattle.listing.specs.Printed.{printed}
use Rattle.readings.proofs.Front.{printed_front}
use Rattle.readings.proofs.answer.Goals as goal

pub returns : goal.returns
returns g c =
    told_of c.write_all.result _ _ _ printed 65537 c.write_all.ensures.bytes
    (whole_front c.answer_of-size.ensures ∙ ap printed c.deref.ensures.value) c.in_ok-input.ensures printed_front
