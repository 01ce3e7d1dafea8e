-- `tokenizer::parting::is_parting` meets its contract: from U+0080 to U+1FFF four characters part. Assumes nothing.
use Rattle.std.proofs.Common.{arith}
use Rattle.std.proofs.lemmas.Grind.{common_steps}
use Rattle.text.specs.Utf8.{within}
use Rattle.tokenizer.specs.Parting.{among}
use Rattle.tokenizer.proofs.Parted.{low_marks}
use Rattle.tokenizer.proofs.parting.is_parting.Goals as goal

pub returns-in_default-matches : goal.returns-in_default-matches
unfolding among within
returns-in_default-matches c = grind (arith, common_steps, low_marks)
