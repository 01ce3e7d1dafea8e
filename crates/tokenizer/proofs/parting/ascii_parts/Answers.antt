-- `tokenizer::parting::ascii_parts` meets its contract: from U+0040 to U+007F four characters part. Assumes nothing.
use Rattle.std.proofs.Common.{arith}
use Rattle.std.proofs.lemmas.Grind.{common_steps}
use Rattle.text.specs.Utf8.{within}
use Rattle.tokenizer.specs.Parting.{among}
use Rattle.tokenizer.proofs.Parted.{brackets}
use Rattle.tokenizer.proofs.parting.ascii_parts.Goals as goal

pub returns-in_default : goal.returns-in_default
unfolding among within
returns-in_default c = grind (arith, common_steps, brackets)
