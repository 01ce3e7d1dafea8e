-- `surface::put_forms` meets its contract: what is put of each element is its text. Assumes nothing.
use Prim.Native.Nat.{ℕ}
use mathlib.Core.Path.{ap, ◌∙◌}
use mathlib.Core.List.{List, map}
use Rattle.std.proofs.Common.{rules}
use Rattle.writing.specs.Writers.{with_text}
use Rattle.paths.specs.Recomposed.{in_row}
use Rattle.paths.specs.Chains.{form_of}
use Rattle.listing.proofs.surface.put_forms.Goals as goal

pub returns : goal.returns
returns c =
    c.put_each.ensures form_of (λ w x v k. search rules)
    ∙ ap (λ (xs : List ℕ). with_text c.args.w.now (in_row (map form_of xs))) c.prefix_rows.ensures
