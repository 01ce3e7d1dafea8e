-- `ranking::ahead` meets its contract, key by key. Assumes nothing.
use Rattle.std.proofs.Common.{ap, ap₂, ◌∙◌, rules}
use Rattle.std.specs.declared.cmp.Ordering.{Ordering}
use Rattle.std.specs.Ordering.{is_lt, ordering_then}
use Rattle.runs.specs.Runs.{cmp}
use Rattle.ranking.specs.Rank.{root_text}
use Rattle.ranking.proofs.Ranked.{with_is, ahead_is}
use Rattle.ranking.proofs.ahead.Goals as goal

pub returns : goal.returns
returns c =
    let a = c.args in
    let w = a.word.now in
    let q = ap₂ ordering_then (c.then.ensures ∙ ap₂ ordering_then c.cmp.ensures c.cmp-2.ensures) c.cmp-3.ensures in
    let t = ap₂ ordering_then (c.then-2.ensures ∙ q) c.cmp-4.ensures in
    let r = with_is c.then-3.result c.then_with.result (cmp (root_text w a.a) (root_text w a.b)) c.then_with.ensures (λ e. search rules) in
    c.is_lt.ensures
    ∙ ap is_lt (r ∙ ap (λ (o : Ordering). ordering_then o (cmp (root_text w a.a) (root_text w a.b))) (c.then-3.ensures ∙ t))
    ∙ ahead_is w a.a a.b
