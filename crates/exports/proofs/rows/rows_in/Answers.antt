-- `rows::rows_in` meets its contract: more than 64 kept are refused, and else what is kept is stored. Assumes nothing.
use Rattle.std.specs.Prelude.{Ok}
use mathlib.Core.Path.{◌≡◌, sym, ap, ◌∙◌}
use mathlib.Core.List.{List}
use Rattle.ranking.specs.declared.Classified.{Classified}
use Rattle.sheet.proofs.Refusals.{accepted-both}
use Rattle.sheet.specs.Inputs.{inputs_of}
use Rattle.sheet.specs.Replies.{reply}
use Rattle.text.specs.Characters.{chars}
use Rattle.ranking.specs.Lists.{Rows, plus_all}
use Rattle.paths.specs.Walk.{word_walk}
use Rattle.analysis.specs.Answers.{collected}
use Rattle.exports.specs.Rows.{row_bytes, row_width, rows_filled}
use Rattle.exports.proofs.Kept.{filled-over, filled-rows}
use Rattle.exports.proofs.Put.{both, same}
use Rattle.exports.proofs.rows.rows_in.Goals as goal
use Rattle.exports.proofs.rows.rows_in.Goals.{Start, After-keep_readings}

-- word and sheet are accepted
accepted : (c : Start) → Ok tt ≡ inputs_of c.args.word.now c.args.sheet.now.bytes.now
accepted c = sym (accepted-both _ _ c.requires c.args.sheet.now.indexed.accepted)

-- what the walk has kept is what is collected
kept_is : (c : After-keep_readings) → c.keep_readings.new.kept ≡ collected c.args.word.now c.args.sheet.now.bytes.now
kept_is c =
    let a = c.args in
    c.keep_readings.ensures.0 ∙ ap (λ (x : Rows). plus_all a.word.now x (word_walk (reply a.sheet.now.bytes.now) (chars a.word.now) a.word.now)) c.new-kept.ensures

pub returns-in-None : goal.returns-in-None
returns-in-None c =
    let a = c.args in
    let h = goal.at.returns-in-None c in
    same (filled-over a.word.now a.sheet.now.bytes.now a.out.now (accepted h.Start) (sym c.in-None.ensures ∙ kept_is h.After-keep_readings)) c.refusal_code.ensures

pub returns-in-Some : goal.returns-in-Some
returns-in-Some c =
    let a = c.args in
    let h = goal.at.returns-in-Some c in
    let e = ap (λ (l : List Classified). rows_filled row_width row_bytes l a.out.now) (c.as_slice.ensures.value ∙ c.classify_rows.ensures)
    ∙ filled-rows a.word.now a.sheet.now.bytes.now a.out.now (accepted h.Start) _ (sym c.in-Some.ensures ∙ kept_is h.After-keep_readings) in
    both e c.put_rows.ensures
