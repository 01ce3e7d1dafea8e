-- `suffixes::first_rest` meets its contract: the plain remainder, else the shared one. Assumes nothing.
use mathlib.Core.Path.{sym, ◌∙◌}
use lib.Seq.{length-take-le}
use Rattle.decomposition.proofs.Taken.{plain-within, shared-within, first-none, first_plain, first_one, first-shared, first_neither}
use Rattle.decomposition.proofs.suffixes.first_rest.Goals as goal

pub returns-in_err-plain : goal.returns-in_err-plain
returns-in_err-plain c = rw c.from_residual.ensures (record { says = first-none _ _ _ _ _ c.open_rests-rests.ensures c.in_err-plain.was; within = tt })

pub slice_bounds-is_taken-end : goal.slice_bounds-is_taken-end
slice_bounds-is_taken-end c = sym (length-take-le _ _ (plain-within _ c.args.least _ _ _ c.open_rests-rests.ensures _ c.in_ok-plain.was))

pub returns-then-is_taken : goal.returns-then-is_taken
returns-then-is_taken c = record {
  says = first_plain _ _ _ _ _ c.open_rests-rests.ensures _ c.in_ok-plain.was (sym c.is_taken.ensures ∙ c.if-is_taken.true);
  within = plain-within _ c.args.least _ _ _ c.open_rests-rests.ensures _ c.in_ok-plain.was;
}

pub returns-in_err-shared : goal.returns-in_err-shared
returns-in_err-shared c =
    rw c.from_residual-in_err-shared.ensures
    (record { says = first_one _ _ _ _ _ c.open_rests-rests.ensures _ c.in_ok-plain.was (sym c.is_taken.ensures ∙ c.if-is_taken.false) c.in_err-shared.was; within = tt })

pub slice_bounds-is_taken-end-2 : goal.slice_bounds-is_taken-end-2
slice_bounds-is_taken-end-2 c = sym (length-take-le _ _ (shared-within _ c.args.least _ _ _ c.open_rests-rests.ensures _ c.in_ok-shared.was))

pub returns-then-is_taken-2 : goal.returns-then-is_taken-2
returns-then-is_taken-2 c = record {
  says =
      first-shared _ _ _ _ _ c.open_rests-rests.ensures _ c.in_ok-plain.was (sym c.is_taken.ensures ∙ c.if-is_taken.false) _ c.in_ok-shared.was
      (sym c.is_taken-2.ensures ∙ c.if-is_taken-2.true);
  within = shared-within _ c.args.least _ _ _ c.open_rests-rests.ensures _ c.in_ok-shared.was;
}

pub returns : goal.returns
returns c = record {
  says =
      first_neither _ _ _ _ _ c.open_rests-rests.ensures _ c.in_ok-plain.was (sym c.is_taken.ensures ∙ c.if-is_taken.false) _ c.in_ok-shared.was
      (sym c.is_taken-2.ensures ∙ c.if-is_taken-2.false);
  within = tt;
}
