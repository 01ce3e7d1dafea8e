-- `offers::Behind::with_front` meets its contract. Assumes nothing.
use mathlib.Core.Path.{◌≡◌, ap, ◌∙◌}
use mathlib.Core.List.{List}
use Rattle.lookup.specs.Lexicons.{replies}
use Rattle.roots.specs.Candidates.{bare, one_suffix}
use Rattle.roots.specs.Room.{held_of, held_all}
use Rattle.roots.specs.declared.RootCandidate.{RootCandidate}
use Rattle.roots.proofs.Offered.{held_first}
use Rattle.roots.proofs.offers.Behind.with_front.Goals as goal

pub returns : goal.returns
returns c =
    let b = c.args.self.now in
    let w = b.asked.word.now in
    let ask = replies b.asked.sheet.now in
    let xs = c.args.list.now.items in
    let o : c.offer.new.list.items ≡ held_of 16 ask w xs (bare w b.front) = c.offer.ensures ∙ ap (held_of 16 ask w xs) c.bare.ensures in
    c.with_suffix.ensures
    ∙ ap (λ (l : List RootCandidate). held_all 16 ask w l (one_suffix ask w b.front)) o
    ∙ held_first 16 ask w xs (bare w b.front) (one_suffix ask w b.front)
