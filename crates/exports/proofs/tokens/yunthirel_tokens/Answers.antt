-- `exports::tokens::yunthirel_tokens` meets its contract: the answer of `tokenize`, coded. Assumes nothing.
use mathlib.Core.Path.{ap, ◌∙◌}
use Rattle.exports.specs.Codes.{written_code}
use Rattle.exports.proofs.Counted.{tokens_small}
use Rattle.exports.proofs.tokens.yunthirel_tokens.Goals as goal

pub written_code-requires : goal.written_code-requires
written_code-requires c = tokens_small _ _ _ c.tokenize.ensures.0

pub returns : goal.returns
returns c = (c.written_code.ensures ∙ ap written_code c.tokenize.ensures.0, c.tokenize.ensures.1)
