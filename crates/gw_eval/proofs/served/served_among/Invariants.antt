-- The served listeners so far, and then those of the rest, are those of all.
use Rattle.std.proofs.Common.{◌≡◌, ◌++◌, map, drop}
use Rattle.std.specs.Prelude.{filter}
use Rattle.std.specs.List.{enumerate_from}
use Rattle.gw_rows.specs.model.DoorRows.{is_served, served_listener}
use Rattle.gw_eval.proofs.served.served_among.Given as goal

abbrev pub invariant-listeners : goal.invariant-listeners
invariant-listeners l =
    l.all.items ++ map (λ p. served_listener p.0 p.1) (filter (λ p. is_served l.doors l.door l.gateway p.0 p.1) (enumerate_from l.place (drop l.place l.gateway.listeners)))
    ≡ map (λ p. served_listener p.0 p.1) (filter (λ p. is_served l.doors l.door l.gateway p.0 p.1) (enumerate_from 0 l.gateway.listeners))
