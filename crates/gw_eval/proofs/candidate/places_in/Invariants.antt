-- The places so far, and then those of the other entries, are those of all.
use Rattle.std.proofs.Common.{◌≡◌, ◌++◌, drop}
use Rattle.gw_eval.specs.Candidates.{places_in}
use Rattle.gw_eval.specs.Counting.{entries_in}
use Rattle.gw_eval.proofs.candidate.places_in.Given as goal

abbrev pub invariant-entries : goal.invariant-entries
invariant-entries l = l.places.items ++ places_in l.gateway (entries_in (drop l.entry-index l.entries)) ≡ places_in l.gateway (entries_in l.entries)
