-- A connection of which nothing came stands for nothing.
use Rattle.std.proofs.Common.{[], refl}
use Rattle.gw_poll.proofs.Keeping.{settled_of}
use Rattle.gw_poll.proofs.course.Course.new.Goals as goal

pub returns-clause-follows : goal.returns-clause-follows
returns-clause-follows c = λ p at. record { conn = c.new.ensures.stands p at; over = c.new.ensures.unfinished; exchanged = refl; stage = (refl, refl) }

pub returns-clause-going : goal.returns-clause-going
returns-clause-going c = λ at.
    let stands = c.new.ensures.stands (record { doors = []; controller = []; door = c.args.door }) refl in
    (([], record { fed = ([], stands.inlet); at = settled_of _ c.new.ensures.reading }), tt)

pub returns-clause-idle : goal.returns-clause-idle
returns-clause-idle c =
    let stands = c.new.ensures.stands (record { doors = []; controller = []; door = c.args.door }) refl in
    record {
      serving = record { bytes = []; fed = ([], stands.inlet); reading = c.new.ensures.reading; unfinished = c.new.ensures.unfinished };
      going = λ at. (([], record { fed = ([], stands.inlet); at = settled_of _ c.new.ensures.reading }), tt);
      written = refl;
    }
