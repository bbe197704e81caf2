-- What is read so far, then each of the rest, is each of all.
use Rattle.std.proofs.Common.{◌≡◌, map, drop}
use Rattle.gw_json.specs.Words.{each, after}
use Rattle.gw_json.specs.Fields.{named_node}
use Rattle.gw_objects.specs.Selectors.{label_requirement_of}
use Rattle.gw_objects.proofs.selector.each_label.Given as goal

abbrev pub invariant-members : goal.invariant-members
invariant-members l = each label_requirement_of (map named_node l.members) ≡ after l.needs.items (each label_requirement_of (map named_node (drop l.member-index l.members)))
