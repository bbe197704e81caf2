-- Each turn counts the next match unless it is repeated.
use Rattle.std.proofs.Common.{◌≡◌, ◌+◌, ◌<◌, ◌≤◌, rules, length, get_or}
use Rattle.gw_rows.specs.model.Fitting.{same_query_param}
use Rattle.gw_rows.proofs.Firsts.{count_start, count_turn}
use Rattle.gw_rows.proofs.query.count.Goals as goal

pub matches-init : goal.matches-init
matches-init c = record { total = count_start same_query_param c.args.matches.now; few = search rules }

pub matches-preserved : goal.matches-preserved
matches-preserved c =
    let items = c.args.matches.now in
    let i = c.matches.index in
    let x = c.index-matches-index.result in
    let within : i < length items = search rules in
    let here : x ≡ get_or items i x = search rules in
    record {
      total = rw c.one_unless-count.ensures (rw c.is_repeated.ensures (count_turn same_query_param items i x c.matches.count _ within here c.matches.invariant.total));
      few = search rules;
    }
