-- `rescue::answer` keeps and tells: what it reads is the sheet's front. Assumes nothing.
use native.Mathlib.Omega.{arith}
use mathlib.Core.Path.{sym, ap, ◌∙◌}
use Rattle.refusals.specs.Refusals.{numbers_of}
use Rattle.refusals.specs.declared.Refusal.TheVariants.{SheetTooLong}
use Rattle.writing.specs.Refused.{refused_text}
use Rattle.writing.proofs.Puts.{put_whole}
use Rattle.rescued.specs.Stretches.{kept_of, report_of}
use Rattle.intake.proofs.Told.{told_none, told_now, told_of, told_before, whole_front}
use Rattle.rescue.specs.Printed.{kept_printed, report_told}
use Rattle.rescue.proofs.Told.{long_kept, long_told, short_kept, short_told, kept_front, told_front, refusal_line}
use Rattle.rescue.proofs.answer.Goals as goal

pub returns-then-len-gt-SHEET_BYTES-clause-keeps : goal.returns-then-len-gt-SHEET_BYTES-clause-keeps
returns-then-len-gt-SHEET_BYTES-clause-keeps g c =
    told_before c.write_all.result (told_now _ _ _ kept_printed 65537 (told_none _)
    (sym (long_kept c.in_ok-sheet.sheet.items (omega (arith, c.if-len-gt-SHEET_BYTES.true, c.len.ensures)))) c.in_ok-sheet.ensures kept_front)

pub returns-then-len-gt-SHEET_BYTES-clause-tells : goal.returns-then-len-gt-SHEET_BYTES-clause-tells
returns-then-len-gt-SHEET_BYTES-clause-tells g c =
    let e = put_whole (refused_text (numbers_of SheetTooLong)) c.new-w.ensures c.put.ensures (omega (arith, refusal_line)) (omega (arith, refusal_line)) in
    told_of c.write_all.result _ _ _ report_told 65537 (rw (sym (c.written.ensures ∙ e)) c.write_all.ensures.bytes)
    (sym (long_told c.in_ok-sheet.sheet.items (omega (arith, c.if-len-gt-SHEET_BYTES.true, c.len.ensures)))) c.in_ok-sheet.ensures told_front

pub returns-clause-keeps : goal.returns-clause-keeps
returns-clause-keeps g c =
    told_before c.report.result (told_now _ _ _ kept_printed 65537 c.in_ok-write_all.ensures.bytes
    (whole_front c.put_kept-size.ensures ∙ ap kept_of c.deref.ensures.value ∙ sym (short_kept c.in_ok-sheet.sheet.items (omega (arith, c.if-len-gt-SHEET_BYTES.false, c.len.ensures))))
    c.in_ok-sheet.ensures kept_front)

pub returns-clause-tells : goal.returns-clause-tells
returns-clause-tells g c =
    told_of c.report.result _ _ _ report_told 65537 c.report.ensures
    (ap report_of c.deref.ensures.value ∙ sym (short_told c.in_ok-sheet.sheet.items (omega (arith, c.if-len-gt-SHEET_BYTES.false, c.len.ensures))))
    c.in_ok-sheet.ensures told_front
