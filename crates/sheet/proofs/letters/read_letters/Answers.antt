-- `sheet::letters::read_letters` meets its contract: each place is past its letter where that stands. Assumes nothing.
use native.Mathlib.Omega.{arith}
use Rattle.sheet.proofs.Places.{spelt}
use Rattle.sheet.proofs.letters.read_letters.Goals as goal

pub skip-w-requires : goal.skip-w-requires
skip-w-requires c = omega arith

pub skip-h-requires : goal.skip-h-requires
skip-h-requires c = omega arith

pub skip-r-requires : goal.skip-r-requires
skip-r-requires c = omega arith

pub skip-p-requires : goal.skip-p-requires
skip-p-requires c = omega arith

pub skip-e-requires : goal.skip-e-requires
skip-e-requires c = omega arith

pub returns : goal.returns
returns c =
    let v = c.args.v.now in
    spelt v c.skip-w.result c.skip-h.result c.skip-r.result c.skip-p.result c.skip-e.result
    c.skip-w.ensures.0 c.skip-h.ensures.0 c.skip-r.ensures.0 c.skip-p.ensures.0 c.skip-e.ensures.0 c.tag_at-tag.result
    c.skip-w.ensures.1 c.skip-h.ensures.1 c.skip-r.ensures.1 c.skip-p.ensures.1 c.skip-e.ensures.1 c.tag_at-tag.ensures
