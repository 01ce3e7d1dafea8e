-- `marks::has_aagantuk_markers` meets its contract: the nukta is sought behind the first character. Assumes nothing.
use Rattle.std.proofs.Common.{ℕ, ◌∙◌, ap, drop, sym}
use Rattle.origin.specs.Marks.{contains, contains_one, aagantuk_marks, nukta, after_first, has_aagantuk_markers}
use Rattle.origin.proofs.Marked.{alone, or_false}
use Rattle.origin.proofs.marks.has_aagantuk_markers.Goals as goal

pub returns-else-contains_one : goal.returns-else-contains_one
unfolding has_aagantuk_markers aagantuk_marks
returns-else-contains_one c =
    let w = c.args.word.now in
    c.contains_one-else-contains_one.ensures
    ∙ alone nukta w _
    ∙ ap (λ (i : ℕ). contains nukta (drop i w)) c.first_char_len.ensures.0
    ∙ or_false (contains_one aagantuk_marks w) (contains nukta (after_first w)) (sym c.contains_one.ensures ∙ c.if-contains_one.false)
