-- `answers::link_of` meets its contract: a name and nothing behind it is the name.
-- Assumes nothing.
use Rattle.lookup.proofs.Parts.{one-part}
use Rattle.lookup.proofs.lexicon.Lexicon.link_of.Goals as goal

pub returns : goal.returns
returns c =
    let a = c.args in
    one-part a.self.now.bytes.now 0x6C a.name.now _ c.value_of.ensures
