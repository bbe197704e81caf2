-- A match that holds, or is repeated, leaves the rest to decide.
use Rattle.std.proofs.Common.{◌≡◌, ◌<◌, rules, ap, length, get_or}
use Rattle.std.specs.List.{list_all}
use Rattle.gw_rows.specs.model.Fitting.{query_param_fits, same_query_param}
use Rattle.gw_rows.proofs.Firsts.{all_more, left_at_start}
use Rattle.gw_rows.proofs.query.query_fits.Goals as goal

pub matches-init : goal.matches-init
matches-init c = ap (list_all (query_param_fits c.args.query.now)) (left_at_start same_query_param c.args.matches.now)

pub matches-preserved : goal.matches-preserved
matches-preserved c =
    let items = c.args.matches.now in
    let i = c.matches.index in
    let x = c.index-matches-index.result in
    let within : i < length items = search rules in
    let here : x ≡ get_or items i x = search rules in
    let turn = all_more same_query_param (query_param_fits c.args.query.now) items i x within here in
    search (rules, turn, c.matches.invariant, c.holds.ensures)
