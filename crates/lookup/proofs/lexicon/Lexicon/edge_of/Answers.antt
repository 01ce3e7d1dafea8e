-- `begins::edge_of` meets its contract: a search that stops at a line that begins so, and one for the first before it. Assumes nothing.
use Rattle.std.proofs.Common.{rules, arith}
use Rattle.lookup.proofs.Edges.{stopped_at, edged_none, edged_some}
use Rattle.lookup.proofs.lexicon.Lexicon.edge_of.Goals as goal

pub halve-seen-requires-clause-callable : goal.halve-seen-requires-clause-callable
halve-seen-requires-clause-callable c = λ i a b _ _ _ _ _ _ _. b

pub halve-before-requires-clause-callable : goal.halve-before-requires-clause-callable
halve-before-requires-clause-callable c = λ i a b _ _ _ _ _ _ _.
    let h = c.halve-seen.ensures in
    let w = stopped_at _ _ _ _ _ h c.in-Some.is in
    omega (arith, b, w.1, h.inside)

pub returns-in_default : goal.returns-in_default
returns-in_default c =
    let a = c.args in
    edged_none a.self.now.bytes.now a.self.now.starts.now a.letter a.head.now _ _ c.halve-seen.ensures (λ i o _ s. search rules) c.in_default.is

pub returns : goal.returns
returns c =
    let a = c.args in
    edged_some a.self.now.bytes.now a.self.now.starts.now a.letter a.head.now _ _ c.halve-seen.ensures (λ i o _ s. search rules) _ c.in-Some.is _ _ c.halve-before.ensures (λ i o _ s. search rules)
