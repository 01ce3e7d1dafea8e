-- `find::is_verb` meets its contract: the letters that the sheet gives the name. Assumes nothing.
use mathlib.Core.Path.{ap}
use Rattle.sheet.specs.declared.letters.Letters.{Letters}
use Rattle.sheet.specs.Replies.{letters_for}
use Rattle.progressive.proofs.find.is_verb.Goals as goal

pub returns : goal.returns
unfolding letters_for
returns c = ap (λ (l : Letters). l.verb) c.letters_of-letters.ensures
