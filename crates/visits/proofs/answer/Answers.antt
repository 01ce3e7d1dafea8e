-- `visits::answer` tells what is printed: the lexicon of an accepted sheet stands for it. Assumes nothing.
use Rattle.std.proofs.Common.{rules}
use mathlib.Core.Path.{sym, ap, subst, ◌≡◌, ◌∙◌}
use mathlib.Core.List.{List}
use Prim.Native.Nat.{ℕ}
use Rattle.lookup.proofs.Count.{roomy}
use Rattle.visits.specs.Printed.{printed}
use Rattle.visits.proofs.Told.{refusal_read, accepted_read, told_all, sheet_placed}
use Rattle.std.specs.Prelude.{Err, Ok}
use Rattle.refusals.specs.declared.Refusal.{Refusal}
use Rattle.sheet.specs.Lines.{sheet_check}
use Rattle.sheet.specs.Inputs.{by_sheet}
use Rattle.visits.proofs.answer.Goals as goal

pub lexicon_of-requires : goal.lexicon_of-requires
lexicon_of-requires g c = roomy _ _ (search rules)

pub returns-in-Err-clause-read : goal.returns-in-Err-clause-read
returns-in-Err-clause-read g c =
    let s = c.args.sheet.now in
    let e = ap by_sheet c.in-Err.ensures ∙ ap (λ (r : Refusal). Err r) (sym c.from.ensures) in
    refusal_read c.say_refused.result _ _ _ s c.from.result e (c.say_refused.ensures (sheet_placed s c.from.result e))

pub returns-in-Err-clause-all : goal.returns-in-Err-clause-all
returns-in-Err-clause-all g c = told_all c.say_refused.result _ _ _ _ (printed c.args.sheet.now) (returns-in-Err-clause-read g c)

pub returns-in-Ok-clause-read : goal.returns-in-Ok-clause-read
returns-in-Ok-clause-read g c =
    let s = c.args.sheet.now in
    let e = c.in-Ok.ensures in
    accepted_read c.answer_all.result _ _ _ _ s (ap by_sheet (subst (λ (x : List ℕ). sheet_check x ≡ Ok tt) e c.in-Ok.lexicon.indexed.accepted)) (rw e at c.answer_all.ensures.read)

pub returns-in-Ok-clause-all : goal.returns-in-Ok-clause-all
returns-in-Ok-clause-all g c = told_all c.answer_all.result _ _ _ _ (printed c.args.sheet.now) (returns-in-Ok-clause-read g c)
