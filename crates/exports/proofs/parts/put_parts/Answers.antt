-- `parts::put_parts` meets its contract: nine bytes, and the 24 places behind them. Assumes nothing.
use mathlib.Core.Path.{◌≡◌, ap, ap₂, ◌∙◌}
use mathlib.Core.List.{List, [], ◌∷◌, ◌++◌}
use Prim.Native.Nat.{ℕ}
use lib.ListN.{length, drop}
use Rattle.std.proofs.Common.{rules}
use Rattle.exports.proofs.Put.{parts-stored}
use Rattle.exports.proofs.parts.put_parts.Goals as goal

pub returns : goal.returns
returns c =
    let a = c.args in
    let l : length a.p.suffixes ≡ 24 = c.well_formed.0.1.1.1.1.1.1.0.1.0.1 in
    let m : length a.more ≡ 4 = search rules in
    let front = ap₂ (λ (row count : ℕ). a.p.start ∷ a.p.end ∷ row ∷ count ∷ a.p.suffix_count ∷ []) c.unwrap_or.ensures c.prefix_count.ensures.0 in
    parts-stored a.p a.more a.out.now _ _ _ m l (ap (λ (x : List ℕ). x ++ drop 5 a.out.now) (c.copy_from_slice.ensures.after ∙ front)) c.copy_from_slice-2.ensures.after c.copy_from_slice-3.ensures.after
