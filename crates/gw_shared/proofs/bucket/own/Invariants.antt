-- What is kept, and what is kept of the rest, is what is kept of all.
use Rattle.std.proofs.Common.{◌≡◌, ◌++◌, drop, filter, eqb, ◌%◌}
use Rattle.gw_shared.proofs.bucket.own.Given as goal

abbrev pub invariant-slots : goal.invariant-slots
invariant-slots g l =
    l.kept.items ++ filter (λ e. eqb (e.hash % l.number) l.place) (drop l.slot-index l.slots) ≡ filter (λ e. eqb (e.hash % l.number) l.place) l.slots
