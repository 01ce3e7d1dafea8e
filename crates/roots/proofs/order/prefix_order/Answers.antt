-- `order::prefix_order` meets its contract. Assumes nothing.
use Rattle.std.proofs.Common.{rules, tests, ◌∙◌}
use Rattle.tables.specs.Rows.{prefix_labels}
use Rattle.roots.specs.Rank.{text_of}
use Rattle.roots.proofs.Labels.{Told, options_ordered}
use Rattle.roots.proofs.order.prefix_order.Goals as goal

pub returns : goal.returns
returns c =
    let x : Told (text_of prefix_labels) c.args.a.prefix c.map.result = search (rules, tests) in
    let y : Told (text_of prefix_labels) c.args.b.prefix c.map-2.result = search (rules, tests) in
    c.cmp.ensures ∙ options_ordered (text_of prefix_labels) c.args.a.prefix c.args.b.prefix c.map.result c.map-2.result x y
