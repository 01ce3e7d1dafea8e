-- `exports::rescue::yunthirel_rescue` meets its contract: the answer of `rescue_sheet`, coded. Assumes nothing.
use Rattle.std.specs.Prelude.{Result}
use Rattle.refusals.specs.declared.Refusal.{Refusal}
use Rattle.rescued.specs.declared.entry.Sizes.{Sizes}
use mathlib.Core.Path.{ap, ◌∙◌}
use Rattle.rescued.specs.Answers.{kept_left, report_left}
use Rattle.exports.specs.Rescue.{rescued_code}
use Rattle.exports.proofs.Fitted.{rescue_fits}
use Rattle.exports.proofs.rescue.yunthirel_rescue.Goals as goal

pub rescued_code-requires : goal.rescued_code-requires
rescued_code-requires c = rescue_fits _ _ _ _ c.rescue_sheet.ensures.0

pub returns : goal.returns
returns c =
    let e = c.rescue_sheet.ensures in
    let a = c.args in (
      c.rescued_code.ensures ∙ ap rescued_code e.0,
      e.1 ∙ ap (λ (r : Result Sizes Refusal). kept_left r a.sheet.now a.kept.now) e.0,
      e.2 ∙ ap (λ (r : Result Sizes Refusal). report_left r a.sheet.now a.report.now) e.0,
    )
