-- A connection of which no byte came yet serves.
use Rattle.std.proofs.Common.{ℕ, [], refl}
use Rattle.gw_worker.specs.model.Sessions.{Place}
use Rattle.gw_conns.proofs.connection.Connection.new.Goals as goal

-- a place at the door, which one doesn't matter
abbrev some_place : ℕ → Place
some_place door = record { doors = []; controller = []; door = door }

pub returns-then-not-polled-clause-ready : goal.returns-then-not-polled-clause-ready
returns-then-not-polled-clause-ready c =
    record { bytes = []; fed = ([], (c.new.ensures.stands (some_place c.args.door) refl).inlet); reading = c.new.ensures.reading; unfinished = c.new.ensures.unfinished }

pub returns-clause-stands : goal.returns-clause-stands
returns-clause-stands c = λ p door. ([], c.new-2.ensures.follows p door)
