-- `faults::names_any` meets its contract: the line's key is compared with that of each text. Assumes nothing.
use Rattle.std.proofs.Common.{rules, tests, Bor, List, ℕ, ◌≡◌, ap, ◌∙◌, ◌++◌, []}
use Rattle.std.proofs.lemmas.Iterator.{YieldsList-from_slice}
use Rattle.std.proofs.lemmas.Iterator.Search.{any_from_yields_List}
use Rattle.std.specs.List.{list_any}
use Rattle.std.specs.Ordering.{is_eq}
use Rattle.runs.specs.Runs.{cmp}
use Rattle.sheet.specs.Forms.{key, key_of}
use Rattle.sheet.specs.Lines.{line_at}
use Rattle.referred.specs.Report.{is_text}
use Rattle.referred.proofs.Refers.{text_any}
use Rattle.referred.proofs.faults.names_any.Goals as goal

pub returns : goal.returns
returns c =
    let x = key (line_at c.args.line.now.sheet.now c.args.line.now.at) in
    let p : c.any.result ≡ list_any (λ t. is_eq (cmp x (key_of 0x6B (t.now ++ [])))) c.affix_rows.result.now = any_from_yields_List (λ (t : Bor (List ℕ)). is_eq (cmp x (key_of 0x6B (t.now ++ [])))) _ _ c.any.result c.any.ensures.ran (YieldsList-from_slice c.affix_rows.result.now c.iter.ensures.rest) (λ x b q k. search (rules, tests)) in
    p ∙ text_any x c.affix_rows.result.now ∙ ap (is_text x) c.affix_rows.ensures.rows
