-- `rows::yunthirel_readings` meets its contract: a refused word or sheet, and else what is kept of both is stored. Assumes nothing.
use mathlib.Core.Path.{sym, ap, ◌∙◌}
use Rattle.sheet.proofs.Refusals.{word-refused, sheet-refused}
use Rattle.exports.specs.Codes.{refusal_code}
use Rattle.exports.proofs.Kept.{filled-refused}
use Rattle.exports.proofs.Put.{same}
use Rattle.exports.proofs.Surfaces.{word-placed, sheet-placed}
use Rattle.exports.proofs.rows.yunthirel_readings.Goals as goal

pub refusal_code-requires : goal.refusal_code-requires
refusal_code-requires c = rw c.from.ensures (word-placed c.in-Err.fault)

pub returns-in-Err : goal.returns-in-Err
returns-in-Err c =
    let w = c.args.word.now in
    let s = c.args.sheet.now in
    let q = filled-refused w s c.args.out.now _ (sym (word-refused w s c.in-Err.fault (sym c.check_word.ensures ∙ c.in-Err.is))) in
    same q (c.refusal_code.ensures ∙ ap refusal_code c.from.ensures)

pub refusal_code-requires-in-Err-with_lexicon_into : goal.refusal_code-requires-in-Err-with_lexicon_into
refusal_code-requires-in-Err-with_lexicon_into c =
    rw c.from-in-Err-with_lexicon_into.ensures (sheet-placed c.args.sheet.now c.in-Err-with_lexicon_into.fault c.in-Err-with_lexicon_into.ensures.0)

pub returns-in-Err-with_lexicon_into : goal.returns-in-Err-with_lexicon_into
returns-in-Err-with_lexicon_into c =
    let w = c.args.word.now in
    let s = c.args.sheet.now in
    let e = c.in-Err-with_lexicon_into.ensures in
    let q = filled-refused w s c.args.out.now _ (sym (sheet-refused w s c.in-Err-with_lexicon_into.fault (sym c.check_word.ensures ∙ c.in_default.is) e.0)) in
    rw e.1 (same q (c.refusal_code-in-Err-with_lexicon_into.ensures ∙ ap refusal_code c.from-in-Err-with_lexicon_into.ensures))
