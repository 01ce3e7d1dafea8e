-- `begins::seek_in` meets its contract: forms that begin so stand at the lines that are asked, and the line at which the search stops is
-- the question's. Assumes nothing.
use Rattle.std.proofs.Common.{rules, arith, ◌∙◌, sym, ◌++◌}
use Rattle.sheet.specs.Forms.{key_of}
use Rattle.lookup.proofs.Settled.{indexed_up, stops_in, sought_placed}
use Rattle.lookup.proofs.Begun.{asked_below, asked_above}
use Rattle.lookup.proofs.Edges.{placed}
use Rattle.lookup.proofs.lexicon.Lexicon.seek_in.Goals as goal

pub halve-seen-requires-clause-callable : goal.halve-seen-requires-clause-callable
halve-seen-requires-clause-callable c = λ i a b. (λ _ _ _ _ _ _ _ _. omega (arith, b, c.requires.inside), λ _ _ _ _ _ _ _ line _ _ _. rw (line.ensures.0, line.ensures.1) (c.requires.each i a b))

pub stopped-requires : goal.stopped-requires
stopped-requires c = stops_in _ _ _ _ _ c.halve-seen.ensures c.requires.inside

pub returns : goal.returns
returns c =
    let a = c.args in
    let s = a.self.now.bytes.now in
    let starts = a.self.now.starts.now in
    let x = a.self.now.indexed in
    let p = placed s (key_of a.letter (a.p.now ++ a.q.now)) starts (indexed_up _ _ x) a.range.lo a.range.hi _ _ c.halve-seen.ensures (λ i o _ _ t. search rules) c.requires.inside
    (asked_below s a.letter a.p.now starts x a.range c.requires a.q.now) (asked_above s a.letter a.p.now starts x a.range c.requires a.q.now) in
    record { sought = sought_placed s starts a.letter _ _ x (c.stopped.ensures.places ∙ sym p); of_sheet = c.stopped.ensures.of_sheet }
