-- `order::compare_labels` meets its contract: the first labels that differ decide, else the lengths. Assumes nothing.
use Rattle.std.proofs.Common.{◌≡◌, ◌∙◌, ap, refl, rules, tests}
use Rattle.std.proofs.lemmas.Iterator.{YieldsList-from_slice, YieldsList-from_map, YieldsList-from_zip}
use Rattle.std.proofs.lemmas.Iterator.Consumers.{YieldsList-at}
use Rattle.std.proofs.lemmas.Iterator.Search.{find_from_yields_List}
use Rattle.std.specs.Prelude.{None, Option, Some, map}
use Rattle.std.specs.List.{find, zip}
use Rattle.std.specs.Option.{unwrap_or, option_map}
use Rattle.std.specs.declared.cmp.Ordering.{Ordering}
use Rattle.std.specs.Ordering.{is_ne}
use Rattle.tables.specs.Rows.{suffixes}
use Rattle.roots.specs.Rank.{text_of}
use Rattle.roots.proofs.Labels.{pair_order, labels_ordered}
use Rattle.roots.proofs.order.compare_labels.Goals as goal

pub returns : goal.returns
returns c =
    let a = c.args.a.now in
    let b = c.args.b.now in
    let f = text_of suffixes in
    let pairs = YieldsList-from_zip (YieldsList-at c.zip.ensures.first (YieldsList-from_slice a c.iter.ensures.rest)) (YieldsList-at c.zip.ensures.second (YieldsList-from_slice b c.iter-2.ensures.rest)) in
    let found = find_from_yields_List is_ne c.find.new.self _ c.find.result c.find.ensures.ran
    (YieldsList-from_map _ (pair_order f) (YieldsList-at c.map.ensures.source pairs) c.map.ensures.closure (λ x r q k. search (rules, tests)))
    (λ x t q k. search (rules, tests)) in
    let none : c.find.result ≡ find is_ne (map (pair_order f) (zip a b)) = same _ ∙ found in
    c.unwrap_or.ensures
    ∙ ap (λ (o : Option Ordering). unwrap_or o c.cmp.result) none
    ∙ ap (unwrap_or (find is_ne (map (pair_order f) (zip a b)))) c.cmp.ensures
    ∙ labels_ordered f a b
  where
    same : (o : Option Ordering) → o ≡ option_map (λ x. x) o
    same None = refl
    same (Some x) = refl
