-- `surface::put_suffixes` meets its contract: what is put of each element is its text. Assumes nothing.
use mathlib.Core.Path.{ap, ◌∙◌}
use mathlib.Core.List.{List, map}
use Rattle.std.proofs.Common.{rules}
use Rattle.writing.specs.Writers.{with_text}
use Rattle.paths.specs.Recomposed.{in_row, written_of}
use Rattle.ranking.specs.declared.Segment.{Segment}
use Rattle.listing.proofs.surface.put_suffixes.Goals as goal

pub returns : goal.returns
returns c =
    c.put_each.ensures written_of (λ w x v k. search rules)
    ∙ ap (λ (xs : List Segment). with_text c.args.w.now (in_row (map written_of xs))) c.suffixes.ensures
