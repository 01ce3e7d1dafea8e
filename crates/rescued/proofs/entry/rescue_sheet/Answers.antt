-- `entry::rescue_sheet` meets its contract: the first run tells both lengths, the second writes. Assumes nothing.
use Rattle.std.proofs.Common.{arith}
use Rattle.std.proofs.lemmas.Bool.Decides.{nat_tests}
use Rattle.writing.proofs.Wholes.{front}
use Rattle.rescued.specs.Stretches.{kept_of, report_of}
use Rattle.rescued.specs.Answers.{rescued_of, kept_left, report_left}
use Rattle.rescued.proofs.entry.rescue_sheet.Goals as goal

pub returns : goal.returns
unfolding rescued_of kept_left report_left
returns c =
    let m = c.put_both-sizes.ensures.0.end in
    let n = c.put_both-sizes.ensures.1.end in
    let k = front {text = kept_of c.args.sheet.now} c.put_both.ensures.0 (omega arith) (omega arith) in
    let r = front {text = report_of c.args.sheet.now} c.put_both.ensures.1 (omega arith) (omega arith) in
    grind (arith, nat_tests)
