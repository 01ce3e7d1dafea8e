-- `sheet::name::run_len` meets its contract: `position` finds the first byte that no name holds. Assumes nothing.
use Rattle.std.proofs.Common.{ap, ◌∙◌, sym, Option, ℕ, length, rules, tests}
use Rattle.std.specs.Option.{unwrap_or}
use Rattle.std.proofs.lemmas.Iterator.{YieldsList-from_slice}
use Rattle.std.proofs.lemmas.Iterator.Search.{position_from_yields_List}
use Rattle.text.specs.Names.{forbidden}
use Rattle.sheet.proofs.Fronts.{run_met}
use Rattle.sheet.proofs.name.run_len.Goals as goal

pub returns : goal.returns
returns c =
    let t = c.args.t.now in
    let found = position_from_yields_List forbidden _ _ c.position.result c.position.ensures.ran (YieldsList-from_slice t c.iter.ensures.rest) (λ x b q k. search (rules, tests)) in
    c.unwrap_or.ensures ∙ ap (λ (o : Option ℕ). unwrap_or o (length t)) found ∙ sym (run_met t)
