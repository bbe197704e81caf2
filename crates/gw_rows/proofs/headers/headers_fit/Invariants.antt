-- Whether what is left fits is whether all do.
use Rattle.std.proofs.Common.{◌≡◌, drop, take}
use Rattle.std.specs.List.{list_all}
use Rattle.gw_rows.specs.model.Fitting.{header_fits, headers_fit, same_header}
use Rattle.gw_rows.proofs.Firsts.{left_of}
use Rattle.gw_rows.proofs.headers.headers_fit.Given as goal

abbrev pub invariant-headers : goal.invariant-headers
invariant-headers l =
    list_all (header_fits l.fields) (left_of same_header (take l.index l.headers) (drop l.index l.headers)) ≡ headers_fit l.headers l.fields
