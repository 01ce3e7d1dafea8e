-- `order::rank` meets its contract, key by key. Assumes nothing.
use Rattle.std.proofs.Common.{rules}
use Rattle.std.specs.Ordering.{bool_cmp, ordering_then}
use mathlib.Core.Path.{◌≡◌, ◌∙◌}
use Rattle.text.specs.Characters.{chars}
use Rattle.decomposition.specs.Parts.{root_text}
use Rattle.roots.specs.Rank.{descending, having, key_order, rank_of}
use Rattle.roots.proofs.Alternatives.{then_is, then_later, descends, havings}
use Rattle.roots.proofs.order.rank.Goals as goal

pub returns : goal.returns
unfolding rank_of
returns c =
    let a = c.args.a in
    let b = c.args.b in
    let w = c.args.word.now in
    let s = descending a.score b.score in
    let h = having a.known_headword b.known_headword in
    let k = having a.known_word b.known_word in
    let n = descending (chars (root_text w a.parts)) (chars (root_text w b.parts)) in
    let o = key_order w a.parts b.parts in
    let p : c.cmp.result ≡ s = c.cmp.ensures ∙ descends a.score b.score in
    let q : c.then_with.result ≡ ordering_then s h = then_is _ _ _ _ p c.then_with.ensures (λ e. let x : c.then_with.result ≡ bool_cmp b.known_headword a.known_headword = search rules in x ∙ havings a.known_headword b.known_headword) in
    let r : c.then_with-2.result ≡ ordering_then (ordering_then s h) k = then_is _ _ _ _ q c.then_with-2.ensures (λ e. let x : c.then_with-2.result ≡ bool_cmp b.known_word a.known_word = search rules in x ∙ havings a.known_word b.known_word) in
    let t : c.then_with-3.result ≡ ordering_then (ordering_then (ordering_then s h) k) n = then_is _ _ _ _ r c.then_with-3.ensures (λ e. search rules) in
    let u : c.then_with-4.result ≡ ordering_then (ordering_then (ordering_then (ordering_then s h) k) n) o = then_is _ _ _ _ t c.then_with-4.ensures (λ e. search rules) in
    u ∙ then_later (ordering_then (ordering_then s h) k) n o ∙ then_later (ordering_then s h) k (ordering_then n o) ∙ then_later s h (ordering_then k (ordering_then n o))
