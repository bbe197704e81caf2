-- The statuses so far, and then those of the rest, are those of all.
use Rattle.std.proofs.Common.{◌≡◌, ◌++◌, map, drop, get_or}
use Rattle.std.specs.List.{enumerate_from}
use Rattle.gw_text.specs.model.Listeners.{listener_state}
use Rattle.gw_eval.proofs.gateways.listener_statuses.Given as goal

abbrev pub invariant-listeners : goal.invariant-listeners
invariant-listeners l =
    l.all ++ map (λ p. record { name = p.1.name; state = listener_state l.doors l.gateway p.0 p.1; attached = get_or l.attached p.0 0 })
    (enumerate_from l.place (drop l.place l.gateway.listeners))
    ≡ map (λ p. record { name = p.1.name; state = listener_state l.doors l.gateway p.0 p.1; attached = get_or l.attached p.0 0 })
    (enumerate_from 0 l.gateway.listeners)
