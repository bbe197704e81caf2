-- Each turn counts the next match unless it is repeated.
use Rattle.std.proofs.Common.{◌≡◌, ◌+◌, ◌<◌, ◌≤◌, rules, length, get_or}
use Rattle.gw_rows.specs.model.Fitting.{same_header}
use Rattle.gw_rows.proofs.Firsts.{count_start, count_turn}
use Rattle.gw_rows.proofs.headers.count.Goals as goal

pub headers-init : goal.headers-init
headers-init c = record { total = count_start same_header c.args.headers.now; few = search rules }

pub headers-preserved : goal.headers-preserved
headers-preserved c =
    let items = c.args.headers.now in
    let i = c.headers.index in
    let x = c.index-headers-index.result in
    let within : i < length items = search rules in
    let here : x ≡ get_or items i x = search rules in
    record {
      total = rw c.one_unless-count.ensures (rw c.is_repeated.ensures (count_turn same_header items i x c.headers.count _ within here c.headers.invariant.total));
      few = search rules;
    }
