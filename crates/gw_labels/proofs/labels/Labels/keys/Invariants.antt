-- What came, and what is still to come.
use Rattle.std.proofs.Common.{◌≡◌, ◌++◌, map, string_bytes}
use Rattle.std.specs.Map.{keys_of}
use Rattle.gw_labels.proofs.Entries.{label}
use Rattle.gw_labels.proofs.labels.Labels.keys.Given as goal

abbrev pub invariant-keys : goal.invariant-keys
invariant-keys l = map string_bytes l.keys.items ++ keys_of (map label l.key-iterator) ≡ keys_of l.self
