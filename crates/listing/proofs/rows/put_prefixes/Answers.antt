-- `rows::put_prefixes` meets its contract: what is put of each element is its text. Assumes nothing.
use Prim.Native.Nat.{ℕ}
use mathlib.Core.Path.{ap, ◌∙◌}
use mathlib.Core.List.{List, map}
use Rattle.std.proofs.Common.{rules}
use Rattle.writing.specs.Writers.{with_text}
use Rattle.writing.specs.Refused.{parted}
use Rattle.listing.specs.Texts.{label_text}
use Rattle.listing.proofs.rows.put_prefixes.Goals as goal

pub returns : goal.returns
returns c =
    c.put_parted.ensures label_text (λ w x v k. search rules)
    ∙ ap (λ (xs : List ℕ). with_text c.args.w.now (parted (map label_text xs))) c.prefix_rows.ensures
