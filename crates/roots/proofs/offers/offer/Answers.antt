-- `offers::offer` meets its contract: the letters of the root decide. Assumes nothing.
use mathlib.Core.Path.{◌≡◌, sym, ◌∙◌}
use native.Mathlib.Omega.{arith}
use Prim.Native.Nat.{◌≤◌}
use lib.ListN.{length}
use Rattle.text.specs.Characters.{chars}
use Rattle.text.proofs.Scan.{chars_most}
use Rattle.roots.proofs.Offered.{scored, candidate_is, offer_unknown, offer_known}
use Rattle.roots.proofs.offers.offer.Goals as goal

pub returns-then-not-is_known : goal.returns-then-not-is_known
returns-then-not-is_known c =
    offer_unknown c.args.asked.now.sheet.now.bytes.now c.args.asked.now.word.now c.args.p c.letters_of-letters.result c.root_of-root.result.now c.letters_of-letters.ensures c.root_of-root.ensures 16 _ (sym c.is_known.ensures ∙ c.if-not-is_known.true)

pub returns : goal.returns
returns c =
    let a = c.args.asked.now in
    let l = c.letters_of-letters in
    let r = c.root_of-root in
    offer_known a.sheet.now.bytes.now a.word.now c.args.p l.result r.result.now l.ensures r.ensures 16 _ _ _
    (sym c.is_known.ensures ∙ c.if-not-is_known.false)
    (candidate_is a.sheet.now.bytes.now a.word.now c.args.p l.result r.result.now l.ensures r.ensures
    c.score_for.result a.surface c.decide_origin-decision.result
    (scored a.surface l.result c.prefix_count-prefixes.result _ c.args.p.suffix_count c.score_for.result c.prefix_count-prefixes.ensures.0 c.score_for.ensures)
    a.counted c.decide_origin-decision.ensures)
    c.add.ensures

pub score_for-requires : goal.score_for-requires
score_for-requires c =
    let a = c.args.asked.now in
    let n : a.surface ≡ chars a.word.now = a.counted in
    let m = chars_most a.word.now in
    let h : length a.word.now ≤ 192 = a.short in
    (omega (arith, c.prefix_count-prefixes.ensures.1), c.requires, omega arith)
