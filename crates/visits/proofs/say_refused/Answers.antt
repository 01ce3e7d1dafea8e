-- `visits::say_refused` tells the line of a refusal: 64 bytes are enough for it. Assumes nothing.
use Rattle.std.proofs.Common.{arith, sym, ◌∙◌}
use Rattle.refusals.specs.Refusals.{numbers_of}
use Rattle.writing.specs.Refused.{refused_text}
use Rattle.writing.proofs.Puts.{put_whole}
use Rattle.visits.proofs.Told.{refusal_line}
use Rattle.visits.proofs.say_refused.Goals as goal

pub returns : goal.returns
returns g c = λ p.
    let l = refusal_line c.args.refusal p in
    let e = put_whole (refused_text (numbers_of c.args.refusal)) c.new-w.ensures c.put.ensures (omega arith) (omega arith) in
    rw (sym (c.written.ensures ∙ e)) c.write_all.ensures.bytes
