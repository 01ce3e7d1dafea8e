-- `analysis::support::has_sibling` meets its contract: some text gives a known name. Assumes nothing.
use Rattle.std.proofs.Common.{rules, tests, Bor, List, ℕ, ◌≡◌, ap, ◌∙◌, ◌++◌}
use Rattle.std.proofs.lemmas.Iterator.{YieldsList-from_slice}
use Rattle.std.proofs.lemmas.Iterator.Search.{any_from_yields_List}
use Rattle.std.specs.List.{list_any}
use Rattle.sheet.specs.Letters.{is_known}
use Rattle.sheet.specs.Replies.{reply, letters_for}
use Rattle.paths.specs.Support.{known_with}
use Rattle.analysis.proofs.Siblings.{known_any}
use Rattle.analysis.proofs.support.has_sibling.Goals as goal

pub returns : goal.returns
returns c =
    let n = c.args.names.now in
    let s = n.sheet.now.bytes.now in
    let rows = c.affix_rows.result.now in
    let p : c.any.result ≡ list_any (λ (t : Bor (List ℕ)). is_known (letters_for s (n.head.now ++ t.now))) rows =
    any_from_yields_List (λ (t : Bor (List ℕ)). is_known (letters_for s (n.head.now ++ t.now))) _ _ c.any.result c.any.ensures.ran (YieldsList-from_slice rows c.iter.ensures.rest) (λ x b q k. search (rules, tests)) in
    p ∙ known_any s n.head.now rows ∙ ap (known_with (reply s) n.head.now) c.affix_rows.ensures.rows
