-- `analysis::roots::with_root` meets its contract: the root's support decides, and its reading is kept. Assumes nothing.
use native.Mathlib.Omega.{arith}
use mathlib.Core.Path.{◌≡◌, sym, ap, ◌∙◌}
use lib.ListN.{length}
use Rattle.sheet.specs.Replies.{reply}
use Rattle.paths.specs.Support.{is_supported}
use Rattle.analysis.specs.Places.{between}
use Rattle.analysis.specs.Supports.{supports, score_from}
use Rattle.analysis.specs.declared.support.Support.{Support}
use Rattle.analysis.proofs.Supported.{supports_is, score_is}
use Rattle.analysis.proofs.Added.{no-root, one-root}
use Rattle.analysis.proofs.roots.with_root.Goals as goal
use Rattle.analysis.proofs.roots.with_root.Goals.{After-is_supported}

-- whether the root is supported
tested : (c : After-is_supported) → let a = c.args in
    c.is_supported.result ≡ is_supported (reply a.root.now.at.now.asked.now.sheet.now.bytes.now) (between a.root.now.at.now.asked.now.word.now a.root.now.start a.root.now.at.now.end)
tested c =
    let a = c.args in
    c.is_supported.ensures
    ∙ ap (λ (x : Support). supports x (length (between a.root.now.at.now.asked.now.word.now a.root.now.start a.root.now.at.now.end))) c.support_of-s.ensures
    ∙ supports_is (reply a.root.now.at.now.asked.now.sheet.now.bytes.now) (between a.root.now.at.now.asked.now.word.now a.root.now.start a.root.now.at.now.end)

pub score-requires : goal.score-requires
score-requires c =
    let at = c.args.root.now.at.now in
    (omega (arith, at.any, at.inside, at.asked.now.short), c.requires, at.few)

pub returns-then-not-is_supported : goal.returns-then-not-is_supported
returns-then-not-is_supported c =
    let a = c.args in
    no-root (reply a.root.now.at.now.asked.now.sheet.now.bytes.now) a.root.now.at.now.surface a.root.now.at.now.chain a.root.now.at.now.asked.now.word.now a.root.now.at.now.end a.root.now.start a.prefixes _ (sym (tested (goal.at.returns-then-not-is_supported c).After-is_supported) ∙ c.if-not-is_supported.true)

pub returns : goal.returns
returns c =
    let a = c.args in
    let q = c.score.ensures ∙ ap (λ (x : Support). score_from a.root.now.at.now.surface x a.prefixes.count a.root.now.at.now.chain.count) c.support_of-s.ensures
    ∙ score_is (reply a.root.now.at.now.asked.now.sheet.now.bytes.now) (between a.root.now.at.now.asked.now.word.now a.root.now.start a.root.now.at.now.end) a.root.now.at.now.surface a.prefixes.count a.root.now.at.now.chain.count in
    c.add.ensures
    ∙ one-root (reply a.root.now.at.now.asked.now.sheet.now.bytes.now) a.root.now.at.now.surface a.root.now.at.now.chain a.root.now.at.now.asked.now.word.now a.root.now.at.now.end a.root.now.start a.prefixes _ c.score.result (sym (tested (goal.at.returns c).After-is_supported) ∙ c.if-not-is_supported.false) q
