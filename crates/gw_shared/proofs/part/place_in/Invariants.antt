-- The parts before this one have what the rest lacks.
use Rattle.std.proofs.Common.{◌≡◌, ◌+◌, length, take}
use Rattle.std.specs.List.{flat_map}
use Rattle.gw_shared.proofs.part.place_in.Given as goal

abbrev pub invariant-parts : goal.invariant-parts
invariant-parts g l = l.at ≡ length (flat_map g.X.Part.elements (take l.index l.parts)) + l.rest
