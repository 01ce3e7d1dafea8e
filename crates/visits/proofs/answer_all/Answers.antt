-- `visits::answer_all` tells the lines of the words that were read: stretch by stretch, and behind the loop that of the last word. Assumes nothing.
use Rattle.std.proofs.Common.{rules, arith, ◌≡◌, ℕ, List, [], ◌++◌, length, take, sym, ap, ◌∙◌}
use Rattle.std.proofs.lemmas.List.{length-take}
use Rattle.std.specs.Io.KnownBytes.{Consumes}
use Rattle.intake.proofs.Told.{told_none, told_both}
use Rattle.writing.proofs.Puts.{put_whole}
use Rattle.writing.specs.Writers.{with_text}
use Rattle.visits.specs.Printed.{lines_of, unended, last_line}
use Rattle.visits.proofs.Stretches.{lines-size, last-size, few_kept}
use Rattle.visits.proofs.Told.{read_none, read_both, read_kept, read_ok, read_err, read_end, told_read, told_all, told_after, stretch_lines, stretch_kept, last_told}
use Rattle.visits.proofs.answer_all.Goals as goal
use Rattle.visits.proofs.answer_all.Goals.{in-Ok+in_ok-write_all-in-Ok, in-Err, else-loop-test, then-loop-test+in-Ok-eq0}

pub loop-init : goal.loop-init
unfolding lines_of unended
loop-init g c = ([], read_none _, told_none _, c.new-word.ensures)

pub put_lines-requires : goal.put_lines-requires
put_lines-requires g c = few_kept _ (unended [] c.loop.invariant.0) c.loop.invariant.3

pub loop-preserved : goal.loop-preserved
loop-preserved g c =
    let i = c.loop.invariant in
    let r = i.0 in
    let sheet = c.args.sheet.now.bytes.now in
    let front = c.loop.word.items in
    elim c.match-read.branch [
      | in-Ok+in_ok-write_all-in-Ok w ↦
          let p = w.put_lines.ensures in
          let t = take w.in-Ok.n c.read.new.buf in
          let size : length c.read.new.buf ≡ 4096 = search rules in
          let room : length c.loop.out ≡ 65536 = search rules in
          let few = few_kept front (unended [] r) i.3 in
          let n = length-take w.in-Ok.n c.read.new.buf in
          let b = read_ok _ _ c.read.result c.read.new.buf w.in-Ok.n c.read.ensures.bytes w.in-Ok.is in
          let e = w.written.ensures ∙ put_whole (lines_of sheet front t) w.new-w.ensures p.0 (omega (arith, lines-size sheet front t)) (omega arith) in
          let told = told_both _ _ _ _ _ i.2 w.in_ok-write_all-in-Ok.ensures.bytes in
          rw (w.word-is, w.told-is)
          (r ++ t, read_both _ _ _ _ _ i.1 b.0, rw (sym (stretch_lines sheet r front t i.3 _ e)) told, stretch_kept sheet r front t i.3 _ p.1)
      | in-Err w ↦
          let k = read_err _ _ c.read.result c.read.new.buf _ c.read.ensures.bytes w.in-Err.is in
          rw (w.word-is, w.told-is) (r, read_kept _ _ _ _ i.1 k, i.2, i.3)
    ]

pub returns-clause-read : goal.returns-clause-read
returns-clause-read g c =
    let i = c.loop.invariant in
    let r = i.0 in
    let sheet = c.args.sheet.now.bytes.now in
    let front = c.loop.word.items in
    let consumed : Consumes (g.R.Read.remaining c.args.words.now) (g.R.Read.remaining c.loop-test.words) r =
    elim c.loop-test.branch [
      | else-loop-test w ↦ rw w.words-is i.1
      | then-loop-test+in-Ok-eq0 w ↦
          let b = read_ok _ _ w.read.result w.read.new.buf w.in-Ok-eq0.field-0 w.read.ensures.bytes w.in-Ok-eq0.is in
          rw w.words-is (read_kept _ _ _ r i.1 (read_end _ _ w.read.new.buf w.in-Ok-eq0.field-0 b.0 w.in-Ok-eq0.field-0-test))
    ] in
    let room : length c.loop.out ≡ 65536 = search rules in
    let few = few_kept front (unended [] r) i.3 in
    let e = c.written-2.ensures ∙ put_whole (last_line sheet front) c.new-w-2.ensures (c.put_last.ensures ∙ ap (λ (l : List ℕ). with_text c.new-w-2.result (last_line sheet l)) c.as_slice.ensures.value)
    (omega (arith, last-size sheet front)) (omega arith) in
    told_read c.write_all-2.result _ _ _ _ r (λ (l : List ℕ). lines_of sheet [] l ++ last_line sheet (unended [] l)) consumed
    (rw (sym (last_told sheet r front [] i.3 _ e)) (told_after c.write_all-2.result _ _ _ _ _ i.2 c.write_all-2.ensures.bytes))

pub returns-clause-all : goal.returns-clause-all
returns-clause-all g c =
    let sheet = c.args.sheet.now.bytes.now in
    told_all c.write_all-2.result _ _ _ _ (λ (l : List ℕ). lines_of sheet [] l ++ last_line sheet (unended [] l)) (returns-clause-read g c)
