-- `splice::replace` meets its contract: what stands behind is moved, and then the text is copied. Assumes nothing.
use Rattle.corrected.proofs.Spliced.{replaced}
use Rattle.corrected.proofs.splice.replace.Goals as goal

pub returns : goal.returns
returns c =
    let a = c.args in
    replaced a.buf.now a.text.now _ _ a.from a.to a.used c.requires.0 c.requires.1 c.requires.2 c.requires.3 c.copy_within.ensures.after c.copy_from_slice.ensures.after
