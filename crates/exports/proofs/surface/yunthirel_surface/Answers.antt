-- `surface::yunthirel_surface` meets its contract: the refusal of the word, or the text that the row makes. Assumes nothing.
use mathlib.Core.Path.{refl, sym, ap, ◌∙◌}
use Rattle.ranking.specs.declared.Reading.{Reading}
use Rattle.decomposition.proofs.Short.{word-short}
use Rattle.paths.specs.Recomposed.{surface_text}
use Rattle.writing.specs.Placed.{written_of, text_over}
use Rattle.exports.specs.Codes.{refusal_code, written_code}
use Rattle.exports.proofs.Surfaces.{word_fault, word_fine, word-placed, surface_small, surface_is}
use Rattle.exports.proofs.Put.{both}
use Rattle.exports.proofs.surface.yunthirel_surface.Goals as goal

pub refusal_code-requires : goal.refusal_code-requires
refusal_code-requires c = rw c.from.ensures (word-placed c.in-Err.fault)

pub written_code-requires : goal.written_code-requires
written_code-requires c =
    let w = c.args.word.now in
    let o = c.args.out.now in
    surface_small w c.args.row.now o _ (word-short w (sym c.check_word.ensures ∙ c.in-Ok.is))
    (c.write_surface.ensures.given ∙ ap (λ (r : Reading). written_of (surface_text w r) o) c.row_reading.ensures)

pub returns-in-Err : goal.returns-in-Err
returns-in-Err c =
    let w = c.args.word.now in
    both (surface_is w c.args.row.now c.args.out.now _ (word_fault w c.in-Err.fault (sym c.check_word.ensures ∙ c.in-Err.is)))
    (c.refusal_code.ensures ∙ ap refusal_code c.from.ensures, refl)

-- what was written is what the row makes
pub returns-in-Ok : goal.returns-in-Ok
returns-in-Ok c =
    let w = c.args.word.now in
    let o = c.args.out.now in
    both (surface_is w c.args.row.now o _ (word_fine w (sym c.check_word.ensures ∙ c.in-Ok.is))) (
      c.written_code.ensures ∙ ap written_code (c.write_surface.ensures.given ∙ ap (λ (r : Reading). written_of (surface_text w r) o) c.row_reading.ensures),
      c.write_surface.ensures.left ∙ ap (λ (r : Reading). text_over (surface_text w r) o) c.row_reading.ensures,
    )
