-- What is counted so far, and what is left to be counted.
use Rattle.std.proofs.Common.{◌≡◌, ◌+◌, ◌≤◌, length, drop, take}
use Rattle.gw_rows.specs.model.Fitting.{counted_query_params, same_query_param}
use Rattle.gw_rows.proofs.Firsts.{left_of}
use Rattle.gw_rows.proofs.query.count.Given as goal

abbrev pub invariant-matches : goal.invariant-matches
invariant-matches l = record {
  total : l.count + length (left_of same_query_param (take l.index l.matches) (drop l.index l.matches)) ≡ length (counted_query_params l.matches);
  few : l.count ≤ l.index;
}
