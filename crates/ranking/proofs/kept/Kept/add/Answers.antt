-- `Kept::add` meets its contract: too many, or one more in its place. Assumes nothing.
use Rattle.std.proofs.Common.{◌≡◌, ap, sym, ◌∙◌, ◌≤◌, ◌<◌, length, arith, rules, tests}
use Rattle.ranking.specs.Lists.{list_limit, Rows, plus}
use Rattle.std.specs.List.{position_or_len}
use Rattle.ranking.specs.Rank.{ahead_of}
use Rattle.ranking.specs.Kept.{kept_rows}
use Rattle.ranking.proofs.Puts.{place_fits, plus-over, plus_full, plus-room}
use Rattle.ranking.proofs.kept.Kept.add.Goals as goal

pub insert-requires : goal.insert-requires
insert-requires c =
    let a = c.args in
    let f : position_or_len (ahead_of a.word.now a.r) c.as_slice.result.now ≤ length c.in-Some.rows.items = rw c.as_slice.ensures.value (place_fits (ahead_of a.word.now a.r) c.in-Some.rows.items) in
    (omega arith, (omega (arith, c.place-at.ensures), search (rules, tests)))

pub returns-then-is_full : goal.returns-then-is_full
returns-then-is_full c =
    let a = c.args in
    let e : length c.in-Some.rows.items ≡ list_limit = search (rules, tests) in
    plus_full a.word.now a.r c.in-Some.rows.items e
    ∙ ap (λ (x : Rows). plus a.word.now x a.r) (sym (ap kept_rows c.in-Some.is) ∙ c.self.view_is)

pub returns-else-is_full : goal.returns-else-is_full
returns-else-is_full c =
    let a = c.args in
    let xs = c.in-Some.rows.items in
    let first = ahead_of a.word.now a.r in
    let h : length xs < list_limit = search (rules, tests) in
    let p = c.place-at.ensures ∙ ap (position_or_len first) c.as_slice.ensures.value in
    plus-room a.word.now a.r xs c.insert.new.self.items h c.insert.ensures.items (omega (arith, p, place_fits first xs))
    ∙ ap (λ (x : Rows). plus a.word.now x a.r) (sym (ap kept_rows c.in-Some.is) ∙ c.self.view_is)

pub returns-in_default : goal.returns-in_default
returns-in_default c =
    let a = c.args in
    let e = ap kept_rows c.in_default.is in
    e ∙ plus-over a.word.now a.r ∙ ap (λ (x : Rows). plus a.word.now x a.r) (sym e ∙ c.self.view_is)
