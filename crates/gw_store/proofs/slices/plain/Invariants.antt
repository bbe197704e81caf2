-- The slices so far, and the rest, are all.
use Rattle.std.proofs.Common.{◌≡◌, ◌++◌, drop, map}
use Rattle.gw_store.proofs.slices.plain.Given as goal

abbrev pub invariant-loop-slice : goal.invariant-loop-slice
invariant-loop-slice l = map (λ s. s.now) l.found.items ++ drop l.slice-index l.slices ≡ l.slices
