-- The map so far, with the entries of the rest, has the entries of all.
use Rattle.std.proofs.Common.{◌≡◌, [], map, drop}
use Rattle.gw_json.specs.Words.{each}
use Rattle.gw_json.specs.Fields.{named_node}
use Rattle.gw_objects.specs.Labels.{label_of, mapped_on}
use Rattle.gw_objects.proofs.labels.map_of.Given as goal

abbrev pub invariant-members : goal.invariant-members
invariant-members l = mapped_on [] (each label_of (map named_node l.members)) ≡ mapped_on l.map (each label_of (map named_node (drop l.member-index l.members)))
