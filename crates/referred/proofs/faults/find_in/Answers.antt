-- `faults::find_in` meets its contract: the findings kept so far and those of the lines to come are all of them. Assumes nothing.
use Prim.Native.Nat.{ℕ}
use mathlib.Core.Path.{◌≡◌, sym, ap, subst, ◌∙◌}
use mathlib.Core.List.{List, ◌++◌}
use lib.ListN.{length, drop}
use mathlib.Core.Bool.{true}
use Rattle.sheet.specs.Forms.{is_form}
use Rattle.lookup.proofs.Settled.{indexed-form}
use Rattle.referred.specs.Report.{fault_at, findings_at}
use Rattle.referred.proofs.Kept.{kept_none, kept_some, kept-all}
use Rattle.referred.proofs.faults.find_in.Goals as goal

pub invariant_of-line : goal.invariant_of-line
invariant_of-line c =
    let f : is_form (drop c.from-at.result c.args.sheet.now.bytes.now) ≡ true = rw c.from-at.ensures (indexed-form _ _ _ c.args.sheet.now.indexed c.loop-start-test.true) in
    record { form = f }

pub loop-start-preserved-in_default : goal.loop-start-preserved-in_default
loop-start-preserved-in_default c =
    kept_none _ _ _ _ _ _ c.loop-start.invariant c.loop-start-test.true (ap (fault_at c.args.sheet.now.bytes.now) (sym c.from-at.ensures) ∙ sym c.line_fault.ensures ∙ c.in_default.is)

pub loop-start-preserved : goal.loop-start-preserved
loop-start-preserved c =
    kept_some _ _ _ _ _ _ c.loop-start.invariant c.loop-start-test.true c.requires c.in-Some.fault (ap (fault_at c.args.sheet.now.bytes.now) (sym c.from-at.ensures) ∙ sym c.line_fault.ensures ∙ c.in-Some.is)

pub returns : goal.returns
returns c =
    let s = c.args.sheet.now.bytes.now in
    subst (λ (x : List ℕ). (c.loop-start.n ≡ length (findings_at s x)) × (c.loop-start.out ≡ findings_at s x ++ drop c.loop-start.n c.args.out.now)) c.args.sheet.now.indexed.listed (kept-all s _ _ _ _ _ c.loop-start.invariant c.loop-start-test.false c.requires)
