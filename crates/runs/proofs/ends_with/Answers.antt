-- `runs::ends_with` meets its contract: a byte that differs is one of the last. Assumes nothing.
use Rattle.std.proofs.Common.{◌-◌, length, drop, sym, ◌∙◌}
use Rattle.std.proofs.lemmas.List.{take_rest}
use Rattle.runs.proofs.Ends.{ends_here, same_differs}
use Rattle.runs.proofs.ends_with.Goals as goal

pub returns-then-end-k : goal.returns-then-end-k
returns-then-end-k c =
    let s = c.args.s.now in
    let t = c.args.tail.now in
    let from = length s - length t in
    sym (ends_here t s c.if-s-tail.false ∙ same_differs (drop from s) t (c.loop-k.k - 1) (rw take_rest at c.if-end-k.true))
