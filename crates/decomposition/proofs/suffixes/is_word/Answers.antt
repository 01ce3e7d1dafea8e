-- `suffixes::is_word` meets its contract. Assumes nothing.
use Rattle.decomposition.proofs.Taken.{word-told}
use Rattle.decomposition.proofs.suffixes.is_word.Goals as goal

pub returns : goal.returns
returns c = let a = c.args in word-told a.sheet.now.bytes.now a.name.now c.letters_of.result c.letters_of.ensures
