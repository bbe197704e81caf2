-- The first one of the rest is the first of all.
use Rattle.std.proofs.Common.{◌≡◌, map, drop}
use Rattle.std.specs.List.{filter_map}
use Rattle.gw_route.specs.SeenFilter.{seen_filter}
use Rattle.gw_text.specs.model.References.{first_of}
use Rattle.gw_answers.specs.model.Messages.{rewrite_by}
use Rattle.gw_answers.proofs.forward.rewrite_in.Given as goal

abbrev pub invariant-filters : goal.invariant-filters
invariant-filters l =
    first_of (filter_map rewrite_by (map seen_filter (drop l.filter-index l.filter-items)))
    ≡ first_of (filter_map rewrite_by (map seen_filter l.filter-items))
