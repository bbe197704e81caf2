-- No port so far has a number, so the first of the rest is the first of all.
use Rattle.std.proofs.Common.{◌≡◌, drop}
use Rattle.gw_text.specs.model.References.{slice_port}
use Rattle.gw_backend.proofs.slice.slice_port.Given as goal

abbrev pub invariant-ports : goal.invariant-ports
invariant-ports l = slice_port l.name (drop l.port-index l.ports) ≡ slice_port l.name l.ports
