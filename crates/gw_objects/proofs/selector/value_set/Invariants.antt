-- The set so far, with the texts of the rest, has the texts of all.
use Rattle.std.proofs.Common.{◌≡◌, [], map, drop}
use Rattle.gw_json.specs.Words.{each}
use Rattle.gw_json.specs.Fields.{node_of}
use Rattle.gw_forms.specs.Forms as forms
use Rattle.gw_objects.specs.Selectors.{gathered_on}
use Rattle.gw_objects.proofs.selector.value_set.Given as goal

abbrev pub invariant-nodes : goal.invariant-nodes
invariant-nodes l = gathered_on [] (each forms.word (map node_of l.nodes)) ≡ gathered_on l.set (each forms.word (map node_of (drop l.node-index l.nodes)))
