-- The entries so far are those of the parentRefs so far.
use Rattle.std.proofs.Common.{◌≡◌, take}
use Rattle.std.specs.List.{filter_map}
use Rattle.gw_text.specs.model.Statuses.{entry_of}
use Rattle.gw_eval.specs.Counting.{entries_in, ArePlaced}
use Rattle.gw_eval.proofs.entries.entries_by.Given as goal

abbrev pub invariant-parents : goal.invariant-parents
invariant-parents l = record {
  entries : entries_in l.all.items ≡ filter_map (entry_of l.controller l.world.world l.labels l.route) (take l.parent-index l.route.parent_refs);
  placed : ArePlaced l.world.world l.all.items;
}
