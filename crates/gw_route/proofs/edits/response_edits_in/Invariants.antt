-- The first one of the rest is the first of all.
use Rattle.std.proofs.Common.{◌≡◌, map, drop}
use Rattle.gw_text.specs.model.Plans.{response_edits_in}
use Rattle.gw_route.specs.SeenFilter.{seen_filter}
use Rattle.gw_route.proofs.edits.response_edits_in.Given as goal

abbrev pub invariant-filters : goal.invariant-filters
invariant-filters l =
    response_edits_in (map seen_filter (drop l.filter-index l.filters)) ≡ response_edits_in (map seen_filter l.filters)
