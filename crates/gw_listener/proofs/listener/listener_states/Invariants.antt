-- The states so far, and then those of the rest, are those of all.
use Rattle.std.proofs.Common.{◌≡◌, ◌++◌, map, drop}
use Rattle.std.specs.List.{enumerate_from}
use Rattle.gw_text.specs.model.Listeners.{listener_state}
use Rattle.gw_listener.proofs.listener.listener_states.Given as goal

abbrev pub invariant-listeners : goal.invariant-listeners
invariant-listeners l =
    l.states ++ map (λ p. listener_state l.doors l.gateway p.0 p.1) (enumerate_from l.place (drop l.place l.gateway.listeners))
    ≡ map (λ p. listener_state l.doors l.gateway p.0 p.1) (enumerate_from 0 l.gateway.listeners)
