-- `begins::range_of` meets its contract: what the two searches find are the bounds of the lines that begin so. Assumes nothing.
use Rattle.lookup.proofs.Begun.{ranged}
use Rattle.lookup.proofs.lexicon.Lexicon.range_of.Goals as goal

pub returns : goal.returns
returns c =
    ranged c.args.self.now.bytes.now c.args.letter c.args.head.now c.args.self.now.starts.now c.args.self.now.indexed c.edge_of-edge.result c.end_of-hi.result c.edge_of-edge.ensures c.end_of-hi.ensures
