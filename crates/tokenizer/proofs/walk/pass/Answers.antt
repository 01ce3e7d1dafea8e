-- `tokenizer::walk::pass` meets its contract: too long a text is not walked. Assumes nothing.
use Rattle.std.proofs.Common.{ap, ◌∙◌}
use Rattle.std.specs.Option.{ok_or}
use Rattle.refusals.specs.declared.Refusal.TheVariants.{TextNotUtf8}
use Rattle.tokenizer.proofs.Answered.{long_said, long_left, walked_said, walked_left}
use Rattle.tokenizer.proofs.walk.pass.Goals as goal

pub returns-then-text-gt65536-clause-value : goal.returns-then-text-gt65536-clause-value
returns-then-text-gt65536-clause-value c = long_said c.args.text.now c.args.list.now c.if-text-gt65536.true

pub returns-then-text-gt65536-clause-left : goal.returns-then-text-gt65536-clause-left
returns-then-text-gt65536-clause-left c = long_left c.args.text.now c.args.list.now c.if-text-gt65536.true

pub returns-clause-value : goal.returns-clause-value
returns-clause-value c =
    walked_said c.args.text.now c.args.list.now c.if-text-gt65536.false (c.ok_or.ensures.value ∙ ap (λ o. ok_or o TextNotUtf8) c.walk.ensures.value)

pub returns-clause-left : goal.returns-clause-left
returns-clause-left c = walked_left c.args.text.now c.args.list.now c.if-text-gt65536.false c.walk.ensures.left
