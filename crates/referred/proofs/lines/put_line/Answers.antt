-- `lines::put_line` meets its contract: three texts, one after the other. Assumes nothing.
use Rattle.std.proofs.Common.{arith}
use Rattle.std.proofs.lemmas.Grind.{common_steps}
use Rattle.referred.proofs.Found.{line-parts}
use Rattle.referred.proofs.lines.put_line.Goals as goal

pub returns : goal.returns
returns c =
    let e = line-parts c.args.sheet.now c.args.finding in
    grind (arith, common_steps)
