-- `order::key_order` meets its contract, key by key. Assumes nothing.
use Rattle.std.proofs.Common.{rules}
use mathlib.Core.Path.{◌≡◌, ◌∙◌}
use Rattle.runs.specs.Runs.{cmp}
use Rattle.decomposition.specs.Parts.{root_text}
use Rattle.std.specs.Ordering.{ordering_then}
use Rattle.roots.specs.Rank.{cmp_texts, prefix_texts, suffix_texts, key_order}
use Rattle.roots.proofs.Alternatives.{then_is, then_later}
use Rattle.roots.proofs.order.key_order.Goals as goal

pub returns : goal.returns
unfolding key_order
returns c =
    let a = c.args.a in
    let b = c.args.b in
    let w = c.args.word.now in
    let r = cmp (root_text w a) (root_text w b) in
    let p = cmp_texts (prefix_texts a) (prefix_texts b) in
    let s = cmp_texts (suffix_texts a) (suffix_texts b) in
    let root : c.compare-root.result ≡ r = c.compare-root.ensures ∙ cc (c.root_of-2.ensures, c.root_of.ensures) in
    let t : c.then_with.result ≡ ordering_then r p = then_is _ _ _ _ root c.then_with.ensures (λ e. search rules) in
    let u : c.then_with-2.result ≡ ordering_then (ordering_then r p) s = then_is _ _ _ _ t c.then_with-2.ensures (λ e. search rules) in
    u ∙ then_later r p s
