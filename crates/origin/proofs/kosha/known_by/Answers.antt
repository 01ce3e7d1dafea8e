-- `kosha::known_by` meets its contract: the tag, or whether the name is a headword. Assumes nothing.
use Rattle.std.specs.Prelude.{None}
use mathlib.Core.Path.{refl, ◌∙◌}
use Rattle.origin.proofs.Stems.{told, tagged, headed}
use Rattle.origin.proofs.kosha.known_by.Goals as goal

pub returns-in-Some : goal.returns-in-Some
returns-in-Some c = tagged c.args.sheet.now.bytes.now c.args.name.now _ _ c.letters_of-letters.ensures c.in-Some.is

pub returns-in-None : goal.returns-in-None
returns-in-None c =
    let l = c.letters_of-letters.result in
    c.then_some.ensures ∙ headed l.head ∙ told c.args.sheet.now.bytes.now c.args.name.now l None l.head c.letters_of-letters.ensures c.in-None.is refl
