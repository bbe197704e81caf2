-- The copies so far are those of the matches so far.
use Rattle.std.proofs.Common.{◌≡◌, take}
use Rattle.gw_route.proofs.copies.copy_headers.Given as goal

abbrev pub invariant-headers : goal.invariant-headers
invariant-headers l = l.copy.items ≡ take l.header-index l.headers
