-- Whether what is left fits is whether all do.
use Rattle.std.proofs.Common.{◌≡◌, drop, take}
use Rattle.std.specs.List.{list_all}
use Rattle.gw_rows.specs.model.Fitting.{counted_query_params, query_param_fits, same_query_param}
use Rattle.gw_rows.proofs.Firsts.{left_of}
use Rattle.gw_rows.proofs.query.query_fits.Given as goal

abbrev pub invariant-matches : goal.invariant-matches
invariant-matches l =
    list_all (query_param_fits l.query) (left_of same_query_param (take l.index l.matches) (drop l.index l.matches))
    ≡ list_all (query_param_fits l.query) (counted_query_params l.matches)
