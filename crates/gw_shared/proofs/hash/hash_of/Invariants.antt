-- The rest of the bytes, mixed into the hash so far, gives the hash of all.
use Rattle.std.proofs.Common.{◌≡◌, drop, fold}
use Rattle.gw_shared.specs.model.Hashes.{mixed}
use Rattle.gw_shared.proofs.hash.hash_of.Given as goal

abbrev pub invariant-bytes : goal.invariant-bytes
invariant-bytes l = fold mixed l.hash (drop l.byte-index l.key) ≡ fold mixed 14695981039346656037 l.key
