-- `offers::with_word` meets its contract. Assumes nothing.
use mathlib.Core.Path.{◌≡◌, ap, ◌∙◌}
use mathlib.Core.List.{List, ◌∷◌}
use Rattle.lookup.specs.Lexicons.{replies}
use Rattle.decomposition.specs.declared.fronts.Front.{Front}
use Rattle.decomposition.specs.Strips.{no_front}
use Rattle.decomposition.proofs.Leading.{front_none}
use Rattle.roots.specs.Candidates.{bare, one_suffix}
use Rattle.roots.specs.Room.{held_of, held_all}
use Rattle.roots.specs.declared.RootCandidate.{RootCandidate}
use Rattle.roots.proofs.Offered.{held_first}
use Rattle.roots.proofs.offers.with_word.Goals as goal

pub returns : goal.returns
returns c =
    let a = c.args.asked.now in
    let w = a.word.now in
    let ask = replies a.sheet.now in
    let xs = c.args.list.now.items in
    let one = one_suffix ask w no_front in
    let none : c.default.result ≡ no_front = front_none c.default.result c.default.ensures.0 c.default.ensures.1 in
    let o : c.offer.new.list.items ≡ held_of 16 ask w xs (bare w no_front) =
    c.offer.ensures ∙ ap (held_of 16 ask w xs) (c.bare.ensures ∙ ap (bare w) none) in
    let p : c.offer-2.new.list.items ≡ held_of 16 ask w (held_of 16 ask w xs (bare w no_front)) c.args.p =
    c.offer-2.ensures ∙ ap (λ (l : List RootCandidate). held_of 16 ask w l c.args.p) o in
    c.with_suffix.ensures
    ∙ ap (λ (f : Front). held_all 16 ask w c.offer-2.new.list.items (one_suffix ask w f)) none
    ∙ ap (λ (l : List RootCandidate). held_all 16 ask w l one) p
    ∙ held_first 16 ask w (held_of 16 ask w xs (bare w no_front)) c.args.p one
    ∙ held_first 16 ask w xs (bare w no_front) (c.args.p ∷ one)
