-- `lines::with_lexicon` meets its contract: what is asked with an output that holds nothing. Assumes nothing.
use Rattle.std.proofs.Common.{rules, ◌≡◌, Err, Ok, MatchResult, ℕ, List, Bor, MutBor}
use Rattle.std.specs.Prelude.{Result}
use Rattle.sheet.specs.Lines.{sheet_check}
use Rattle.sheet.specs.declared.check.SheetFault.{SheetFault}
use Rattle.lookup.specs.declared.lexicon.Lexicon.{Lexicon}
use Rattle.lookup.specs.Lexicons.{Asked, AskedInto}
use Rattle.lookup.proofs.lines.with_lexicon.Goals as goal

-- what is left of the output is nothing that was asked
alone : {R : Type 0} (s old new : List ℕ) (into : Bor Lexicon → MutBor (List ℕ) → R → MutBor (List ℕ) → Type 0) (gives : Bor Lexicon → R → Type 0)
    → ((l : Bor Lexicon) (o : MutBor (List ℕ)) (r : R) (n : MutBor (List ℕ)) → into l o r n → gives l r) → (v : Result R SheetFault)
    → MatchResult v (λ r. AskedInto s old new (λ l o n. into l o r n)) (λ fault. (sheet_check s ≡ Err fault) × (new ≡ old))
    → MatchResult v (λ r. Asked s (λ l. gives l r)) (λ fault. sheet_check s ≡ Err fault)
alone s old new into gives h (Ok r) k = record { accepted = k.accepted; lexicon = k.lexicon; of_sheet = k.of_sheet; given = h _ _ _ _ k.given }
alone s old new into gives h (Err fault) k = k.0

pub returns : goal.returns
returns g c = alone _ _ _ _ _ (λ l o r n k. search rules) _ c.with_lexicon_into.ensures
