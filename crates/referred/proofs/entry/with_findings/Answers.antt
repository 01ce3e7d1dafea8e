-- `entry::with_findings` meets its contract: what is told of a lexicon of the sheet is told of the sheet. Assumes nothing.
use Rattle.std.proofs.Common.{rules, ◌≡◌, Err, Ok, MatchResult, ℕ, List, Bor, MutBor}
use Rattle.std.specs.Prelude.{Result}
use Rattle.sheet.specs.Lines.{sheet_check}
use Rattle.sheet.specs.declared.check.SheetFault.{SheetFault}
use Rattle.lookup.specs.declared.lexicon.Lexicon.{Lexicon}
use Rattle.lookup.specs.Lexicons.{AskedInto}
use Rattle.referred.specs.Told.{Told}
use Rattle.referred.specs.declared.lines.Report.{Report}
use Rattle.referred.proofs.entry.with_findings.Goals as goal

-- what is asked of the lexicon is told of its sheet
of_sheet : {T R : Type 0} (s : List ℕ) (old new : List T) (into : Bor Lexicon → MutBor (List T) → R → MutBor (List T) → Type 0)
    (gives : Bor Report → MutBor (List T) → R → MutBor (List T) → Type 0)
    → ((l : Bor Lexicon) (o : MutBor (List T)) (r : R) (n : MutBor (List T)) → into l o r n → Told l.now.bytes.now o.now n.now (λ p a b. gives p a r b))
    → (v : Result R SheetFault)
    → MatchResult v (λ r. AskedInto s old new (λ l o n. into l o r n)) (λ fault. (sheet_check s ≡ Err fault) × (new ≡ old))
    → MatchResult v (λ r. Told s old new (λ p a b. gives p a r b)) (λ fault. (sheet_check s ≡ Err fault) × (new ≡ old))
of_sheet s old new into gives h (Ok r) k = rw (k.of_sheet, k.before, k.after) at (h k.lexicon k.lent r k.left k.given)
of_sheet s old new into gives h (Err fault) k = k

pub returns : goal.returns
returns g c = of_sheet _ _ _ _ _ (λ l o r n k. search rules) _ c.with_lexicon_into.ensures
