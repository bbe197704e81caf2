-- Each turn keeps the more specific one; at the end none is left.
use Rattle.std.proofs.Common.{◌≡◌, ◌∙◌, ◌<◌, rules, sym, ap, List, [], ◌++◌, length, get_or, drop, filter, Option, ◌+◌}
use Rattle.std.proofs.Math.ListN.{drop_of_length-le}
use Rattle.std.specs.Option.{option_copied, option_to_list}
use Rattle.gw_rows.proofs.Foremost.{foremost_end, foremost_turn}
use Rattle.gw_rows.specs.Kept.{kept}
use Rattle.gw_rows.specs.model.Rows.{foremost}
use Rattle.gw_match.specs.Nearest.{by_specificity, table_at, table_takes}
use Rattle.gw_match.specs.model.Listed.{Listed}
use Rattle.gw_match.proofs.Specific.{tables_total}
use Rattle.gw_match.proofs.choice.foremost_table.Goals as goal

pub tables-preserved : goal.tables-preserved
tables-preserved c =
    let items = c.args.tables.now in
    let i = c.tables.table-index in
    let x = c.table-item.result in
    let within : i < length items = search rules in
    let here : x ≡ get_or items i x = search rules in
    let turn = foremost_turn by_specificity tables_total (table_takes c.args.host.now) (option_copied c.tables.best) items i x within here in
    let test = table_takes c.args.host.now in
    let best : option_copied c.nearer-best.result ≡ kept by_specificity test (option_copied c.tables.best) x =
    c.nearer-best.ensures ∙ ap (kept by_specificity test (option_copied c.tables.best)) c.deref.ensures in
    ap (λ (o : Option Listed). foremost by_specificity (option_to_list o ++ filter test (drop (i + 1) items))) best ∙ (sym turn ∙ c.tables.invariant)

pub returns : goal.returns
unfolding table_at
returns c =
    let items = c.args.tables.now in
    let none : drop c.tables.table-index items ≡ [] = drop_of_length-le items (search rules) in
    let best = option_copied c.tables.best in
    sym (foremost_end by_specificity tables_total best)
    ∙ ap (λ (left : List Listed). foremost by_specificity (option_to_list best ++ filter (table_takes c.args.host.now) left)) (sym none)
    ∙ c.tables.invariant
