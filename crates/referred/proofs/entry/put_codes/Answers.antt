-- `entry::put_codes` meets its contract: what is made of each finding is its code. Assumes nothing.
use Rattle.std.proofs.Common.{rules, ap, sym, ◌∙◌, length}
use Rattle.refusals.specs.Refusals.{room_for}
use Rattle.referred.specs.Codes.{code_of}
use Rattle.referred.proofs.Found.{codes_length}
use Rattle.referred.proofs.entry.put_codes.Goals as goal

pub returns : goal.returns
returns c = (
  c.fill.ensures.size ∙ ap (λ (n : _). room_for n (length c.args.out.now)) (sym (codes_length c.args.report.now.findings.now)),
  c.fill.ensures.left code_of (λ x y k. search rules),
)
