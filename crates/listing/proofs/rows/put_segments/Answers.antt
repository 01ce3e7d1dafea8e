-- `rows::put_segments` meets its contract: what is put of each element is its text. Assumes nothing.
use mathlib.Core.Path.{ap, ◌∙◌}
use mathlib.Core.List.{List, map}
use Rattle.std.proofs.Common.{rules}
use Rattle.writing.specs.Writers.{with_text}
use Rattle.writing.specs.Refused.{parted}
use Rattle.listing.specs.Texts.{segment_text}
use Rattle.ranking.specs.declared.Segment.{Segment}
use Rattle.listing.proofs.rows.put_segments.Goals as goal

pub returns : goal.returns
returns c =
    c.put_parted.ensures segment_text (λ w x v k. search rules)
    ∙ ap (λ (xs : List Segment). with_text c.args.w.now (parted (map segment_text xs))) c.suffixes.ensures
