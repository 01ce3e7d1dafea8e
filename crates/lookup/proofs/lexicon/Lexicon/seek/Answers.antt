-- `search::seek` meets its contract: the line at which the search stops is the question's. Assumes nothing.
use Rattle.std.proofs.Common.{rules, arith, ◌∙◌, sym, ◌++◌, length}
use Rattle.sheet.specs.Forms.{key_of}
use Rattle.lookup.proofs.Settled.{indexed_up, stops_in, indexed_few, sought_placed}
use Rattle.lookup.proofs.Edges.{placed}
use Rattle.lookup.proofs.lexicon.Lexicon.seek.Goals as goal

pub halve-seen-requires-clause-callable : goal.halve-seen-requires-clause-callable
halve-seen-requires-clause-callable c = λ i a b _ _ _ _ _ _ _ _. b

pub stopped-requires : goal.stopped-requires
stopped-requires c = stops_in _ _ _ _ _ c.halve-seen.ensures (omega arith)

pub returns : goal.returns
returns c =
    let a = c.args in
    let s = a.self.now.bytes.now in
    let starts = a.self.now.starts.now in
    let x = a.self.now.indexed in
    let q = key_of a.letter (a.p.now ++ a.q.now) in
    let p = placed s q starts (indexed_up _ _ x) 0 (length starts) _ _ c.halve-seen.ensures (λ i o _ _ s. search rules) (omega arith) (λ h. absurd (omega arith)) (λ h. absurd (omega arith)) in
    (record { sought = sought_placed s starts a.letter _ _ x (c.stopped.ensures.places ∙ sym p); of_sheet = c.stopped.ensures.of_sheet }, c.halve-seen.ensures.counted _ (omega (arith, indexed_few _ starts x)))
