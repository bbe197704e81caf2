-- The digest so far, and then of the rest, is that of the whole text.
use Rattle.std.proofs.Common.{◌≡◌, drop, fold}
use Rattle.gw_store.specs.ByService.{one_more}
use Rattle.gw_store.proofs.service_slice.digest_of.Given as goal

abbrev pub invariant-loop-byte : goal.invariant-loop-byte
invariant-loop-byte l = fold one_more l.digest (drop l.byte-index l.text) ≡ fold one_more l.start l.text
