-- `stored::put_rows` meets its contract: the rows stored so far stand at the front, one after the other. Assumes nothing.
use Prim.Native.Nat.{◌-◌, ◌*◌}
use mathlib.Core.Path.{◌≡◌, refl, subst}
use mathlib.Core.List.{◌++◌}
use lib.ListN.{length, drop}
use borrow.Rule.Slice.PartMut.{mid_of}
use borrow.Author.Rules.{rules}
use Rattle.exports.proofs.Widths.{store_none, store_next}
use Rattle.exports.proofs.stored.put_rows.Goals as goal

pub loop-i-init : goal.loop-i-init
loop-i-init g c = (refl, store_none g.T.Row.bytes g.T.Row.WIDTH g.met.T.Row.wide c.args.rows.now c.args.out.now)

pub loop-i-preserved : goal.loop-i-preserved
loop-i-preserved g c =
    let r = g.T.Row in
    let l = c.loop-i in
    let x = c.index-rows-i.result in
    let p = rw c.WIDTH-in-loop-i.ensures at c.put.ensures in
    rw c.WIDTH-in-loop-i.ensures (
      search rules,
      store_next r.bytes r.WIDTH g.met.T.Row.wide c.args.rows.now l.i x c.args.out.now l.out _ c.loop-i-test.true l.invariant.1
          (subst (λ (y : _). c.put.new.out ≡ r.bytes y ++ drop r.WIDTH (mid_of (r.WIDTH * l.i) (length l.out - r.WIDTH * l.i) l.out)) c.index-rows-i.is p),
    )
