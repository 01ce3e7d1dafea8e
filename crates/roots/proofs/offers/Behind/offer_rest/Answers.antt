-- `offers::Behind::offer_rest` meets its contract: too few characters, or the parts are offered. Assumes nothing.
use native.Mathlib.Omega.{arith}
use mathlib.Core.Path.{◌≡◌, ap, ◌∙◌}
use mathlib.Core.List.{List, [], ◌∷◌}
use Prim.Native.Nat.{ℕ, ◌+◌, ◌<◌, ◌≤◌}
use lib.ListN.{length, take, drop, length-drop}
use Rattle.text.specs.Characters.{chars}
use Rattle.lookup.specs.Lexicons.{replies}
use Rattle.decomposition.specs.Strips.{label_row, least_root}
use Rattle.roots.proofs.Offered.{held_none, rest-few, rest_enough, one_label}
use Rattle.roots.proofs.offers.Behind.offer_rest.Goals as goal
use Rattle.roots.proofs.offers.Behind.offer_rest.Goals.{In-Some, After-count}

pub returns-in_default : goal.returns-in_default
returns-in_default c =
    let b = c.args.self.now in
    rw c.in_default.is (held_none 16 (replies b.asked.sheet.now) b.asked.word.now c.args.list.now.items)

-- what is left lies inside the word
inside : (c : In-Some) → let b = c.args.self.now in b.front.from + c.in-Some.len ≤ length b.asked.word.now
inside c =
    let b = c.args.self.now in
    let h : c.in-Some.len ≤ length (drop b.front.from b.asked.word.now) = rw c.in-Some.is at c.requires in
    let d = length-drop b.front.from b.asked.word.now in
    let i : b.front.from ≤ length b.asked.word.now = b.inside in
    omega (arith)

-- the characters of the remainder
cut : (c : After-count) → let b = c.args.self.now in c.count.result ≡ chars (take c.in-Some.len (drop b.front.from b.asked.word.now))
cut c = c.count.ensures ∙ ap (λ (s : List ℕ). chars (take c.in-Some.len s)) c.piece.ensures

pub returns-then-count-least_root : goal.returns-then-count-least_root
returns-then-count-least_root c =
    let b = c.args.self.now in
    let w = b.asked.word.now in
    let r = take c.in-Some.len (drop b.front.from w) in
    let h : chars r < least_root b.front.prefix = rw (cut (goal.at.returns-then-count-least_root c).After-count, c.least_root.ensures) at c.if-count-least_root.true in
    rw c.in-Some.is (rest-few 16 (replies b.asked.sheet.now) w c.args.list.now.items (least_root b.front.prefix) b.front (label_row c.args.k ∷ []) r h)

pub returns : goal.returns
returns c =
    let b = c.args.self.now in
    let w = b.asked.word.now in
    let r = take c.in-Some.len (drop b.front.from w) in
    let h : least_root b.front.prefix ≤ chars r = rw (cut (goal.at.returns c).After-count, c.least_root.ensures) at c.if-count-least_root.false in
    rw c.in-Some.is (
    rest_enough 16 (replies b.asked.sheet.now) w c.args.list.now.items (least_root b.front.prefix) b.front (label_row c.args.k ∷ []) r _ c.parts_at-p.result h
    (one_label w b.front c.in-Some.len c.label_row.result c.args.k c.parts_at-p.result (inside (goal.at.returns c).In-Some) c.label_row.ensures c.parts_at-p.ensures) c.offer.ensures)
