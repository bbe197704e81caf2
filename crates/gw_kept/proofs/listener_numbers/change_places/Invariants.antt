-- The numbers of the places so far are changed.
use Rattle.std.proofs.Common.{◌≡◌, ℕ, cond, get_or, nat_eq, take}
use Rattle.std.specs.List.{list_any}
use Rattle.gw_kept.specs.Changes.{changed}
use Rattle.gw_kept.proofs.listener_numbers.change_places.Given as goal

abbrev pub invariant-places : goal.invariant-places
invariant-places l = (other : ℕ) → get_or l.numbers.items other 0
    ≡ cond (list_any (nat_eq other) (take l.place-index l.places)) (changed l.change (get_or l.before other 0)) (get_or l.fn.numbers.items other 0)
