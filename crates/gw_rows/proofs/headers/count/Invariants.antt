-- What is counted so far, and what is left to be counted.
use Rattle.std.proofs.Common.{◌≡◌, ◌+◌, ◌≤◌, length, drop, take}
use Rattle.gw_rows.specs.model.Fitting.{counted_headers, same_header}
use Rattle.gw_rows.proofs.Firsts.{left_of}
use Rattle.gw_rows.proofs.headers.count.Given as goal

abbrev pub invariant-headers : goal.invariant-headers
invariant-headers l = record {
  total : l.count + length (left_of same_header (take l.index l.headers) (drop l.index l.headers)) ≡ length (counted_headers l.headers);
  few : l.count ≤ l.index;
}
