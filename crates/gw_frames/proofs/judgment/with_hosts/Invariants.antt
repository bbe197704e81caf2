use Rattle.std.proofs.Common.{◌≡◌, ◌++◌, map, drop}
use Rattle.gw_frames.specs.model.Requests.{with_host}
use Rattle.gw_frames.proofs.judgment.with_hosts.Given as goal

abbrev pub invariant-fields : goal.invariant-fields
invariant-fields l = l.copied.items ++ map (with_host l.authority) (drop l.field-index l.fields) ≡ map (with_host l.authority) l.fields
