-- `lines::with_lexicon_into` meets its contract: both lists have room for the lines of their sheets. Assumes nothing.
use Rattle.std.proofs.Common.{rules}
use mathlib.Core.Path.{◌≡◌, subst, refl}
use mathlib.Core.List.{List}
use Prim.Native.Nat.{ℕ}
use Rattle.std.specs.Prelude.{Ok}
use Rattle.sheet.specs.Lines.{sheet_check}
use Rattle.lookup.proofs.Count.{roomy, few-room}
use Rattle.lookup.proofs.lines.with_lexicon_into.Goals as goal

pub lexicon_of-requires : goal.lexicon_of-requires
lexicon_of-requires g c = few-room _ _ c.if-sheet-le-SMALL_BYTES.true (search rules)

pub lexicon_of-requires-2 : goal.lexicon_of-requires-2
lexicon_of-requires-2 g c = roomy _ _ (search rules)

pub returns-then-sheet-le-SMALL_BYTES : goal.returns-then-sheet-le-SMALL_BYTES
returns-then-sheet-le-SMALL_BYTES g c =
    let e = c.in_ok-lexicon.ensures in
    record { accepted = subst (λ (s : List ℕ). sheet_check s ≡ Ok tt) e c.in_ok-lexicon.lexicon.indexed.accepted; lexicon = _; of_sheet = e; lent = _; left = _; before = refl; after = refl; given = c.ask.ensures }

pub returns : goal.returns
returns g c =
    let e = c.in_ok-lexicon-2.ensures in
    record { accepted = subst (λ (s : List ℕ). sheet_check s ≡ Ok tt) e c.in_ok-lexicon-2.lexicon.indexed.accepted; lexicon = _; of_sheet = e; lent = _; left = _; before = refl; after = refl; given = c.ask-2.ensures }
