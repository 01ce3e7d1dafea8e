-- `names::letters_of` meets its contract: the letters that the value spells. Assumes nothing.
use mathlib.Core.Path.{ap, ◌∙◌}
use Rattle.sheet.specs.Replies.{letters_told, letters_for}
use Rattle.lookup.proofs.Parts.{found-told}
use Rattle.lookup.proofs.names.Names.letters_of.Goals as goal

pub returns : goal.returns
unfolding letters_for
returns c = c.letters_at.ensures ∙ ap letters_told (found-told _ _ _ _ c.seek_in.ensures)

pub seek_in-requires : goal.seek_in-requires
seek_in-requires c = c.args.self.now.begun
