-- The copies so far are those of the filters so far.
use Rattle.std.proofs.Common.{◌≡◌, map, take}
use Rattle.gw_route.specs.SeenFilter.{seen_filter}
use Rattle.gw_route.proofs.copies.copy_filters.Given as goal

abbrev pub invariant-filters : goal.invariant-filters
invariant-filters l = map seen_filter l.copy ≡ map seen_filter (take l.filter-index l.filters)
