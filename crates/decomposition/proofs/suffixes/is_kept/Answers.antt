-- `suffixes::is_kept` meets its contract: the rule of pronouns by the letters of the piece. Assumes nothing.
use Rattle.decomposition.proofs.Taken.{kept}
use Rattle.decomposition.proofs.suffixes.is_kept.Goals as goal

pub returns : goal.returns
returns c =
    let a = c.args in
    kept a.sheet.now.bytes.now a.piece.now a.suffix.now c.letters_of-own.result c.bars.result c.letters_of-own.ensures c.bars.ensures
