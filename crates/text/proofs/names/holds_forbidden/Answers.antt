-- `text::names::holds_forbidden` meets its contract: `any` tests each byte. Assumes nothing.
use Rattle.std.proofs.Common.{sym, ◌∙◌, rules, tests}
use Rattle.std.proofs.lemmas.Iterator.{YieldsList-from_slice}
use Rattle.std.proofs.lemmas.Iterator.Search.{any_from_yields_List}
use Rattle.text.specs.Names.{forbidden}
use Rattle.text.proofs.Scan.{forbidden_any}
use Rattle.text.proofs.names.holds_forbidden.Goals as goal

pub returns : goal.returns
returns c =
    let s = c.args.s.now in
    any_from_yields_List forbidden _ _ c.any.result c.any.ensures.ran (YieldsList-from_slice s c.iter.ensures.rest) (λ x b q k. search (rules, tests)) ∙ sym (forbidden_any s)
