-- `list::add` meets its contract: held already, no room, or in its place. Assumes nothing.
use Rattle.std.proofs.Common.{sym, ap, ◌∙◌, ◌≤◌, ◌<◌, length, arith, rules, tests}
use Rattle.std.specs.List.{position_or_len}
use Rattle.ranking.proofs.Puts.{place_fits}
use Rattle.roots.specs.Rank.{ahead_of}
use Rattle.roots.specs.Lists.{holds_in}
use Rattle.roots.proofs.Kept.{once-held, once_full, once-room}
use Rattle.roots.proofs.list.add.Goals as goal
use Rattle.roots.proofs.list.add.Goals.{then-holds-via-then-holds, then-holds-via-else-holds+then-is_full}

pub returns-then-holds : goal.returns-then-holds
returns-then-holds c =
    let a = c.args in
    let held = c.holds.ensures ∙ ap (holds_in a.word.now a.r.parts) c.as_slice.ensures.value in
    elim c.then-holds.branch [
      | then-holds-via-then-holds w ↦ once-held a.word.now a.list.now.items a.r (sym w.if-holds.true ∙ held)
      | then-holds-via-else-holds+then-is_full w ↦ once_full a.word.now a.list.now.items a.r (sym w.if-holds.false ∙ held) (search (rules, tests))
    ]

pub insert-requires : goal.insert-requires
insert-requires c =
    let a = c.args in
    let f : position_or_len (ahead_of a.word.now a.r) c.as_slice-2.result.now ≤ length a.list.now.items = rw c.as_slice-2.ensures.value (place_fits (ahead_of a.word.now a.r) a.list.now.items) in
    (omega arith, (omega (arith, c.place-at.ensures), search (rules, tests)))

pub returns : goal.returns
returns c =
    let a = c.args in
    let h : length a.list.now.items < 16 = search (rules, tests) in
    once-room a.word.now a.list.now.items a.r (sym c.if-holds.false ∙ c.holds.ensures ∙ ap (holds_in a.word.now a.r.parts) c.as_slice.ensures.value)
    c.place-at.result c.insert.new.self.items h (c.place-at.ensures ∙ ap (position_or_len (ahead_of a.word.now a.r)) c.as_slice-2.ensures.value) c.insert.ensures.items
