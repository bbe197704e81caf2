-- What is read so far, then each of the rest, is each of all.
use Rattle.std.proofs.Common.{◌≡◌, [], map, drop}
use Rattle.gw_json.specs.Words.{after}
use Rattle.gw_json.specs.Fields.{node_of}
use Rattle.gw_objects.specs.Gateways.{listeners_from}
use Rattle.gw_objects.proofs.gateway.each_listener.Given as goal

abbrev pub invariant-nodes : goal.invariant-nodes
invariant-nodes l = listeners_from [] (map node_of l.nodes) ≡ after l.listeners.items (listeners_from l.listeners.items (map node_of (drop l.node-index l.nodes)))
