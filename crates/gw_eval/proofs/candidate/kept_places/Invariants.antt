-- The places so far, and then those of the rest, are those of all.
use Rattle.std.proofs.Common.{◌≡◌, ◌++◌, drop}
use Rattle.std.specs.Prelude.{flat_map}
use Rattle.gw_eval.specs.Candidates.{places_at}
use Rattle.gw_eval.proofs.candidate.kept_places.Given as goal

abbrev pub invariant-entries : goal.invariant-entries
invariant-entries l = l.places.items ++ flat_map (places_at l.gateway) (drop l.at-index l.kept.attached) ≡ flat_map (places_at l.gateway) l.kept.attached
