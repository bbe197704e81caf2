-- A match that holds, or is repeated, leaves the rest to decide.
use Rattle.std.proofs.Common.{◌≡◌, ◌∙◌, ◌<◌, rules, sym, ap, length, get_or}
use Rattle.std.specs.List.{list_all}
use Rattle.gw_rows.specs.model.Fitting.{header_fits, same_header}
use Rattle.gw_rows.proofs.Firsts.{all_more, left_at_start}
use Rattle.gw_rows.proofs.headers.headers_fit.Goals as goal

pub headers-init : goal.headers-init
headers-init c = ap (list_all (header_fits c.args.fields.now)) (left_at_start same_header c.args.headers.now)

pub headers-preserved : goal.headers-preserved
headers-preserved c =
    let items = c.args.headers.now in
    let i = c.headers.index in
    let x = c.index-headers-index.result in
    let within : i < length items = search rules in
    let here : x ≡ get_or items i x = search rules in
    let turn = all_more same_header (header_fits c.args.fields.now) items i x within here in
    search (rules, turn, c.headers.invariant, c.holds.ensures)
