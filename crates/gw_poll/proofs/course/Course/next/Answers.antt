-- What is begun goes on as its turn says.
use Rattle.std.proofs.Common.{◌∙◌, Ok, ap}
use Rattle.gw_poll.proofs.Beginning.{begun_ended, begun_fewer, begun_goes, begun_going, begun_held, begun_more}
use Rattle.gw_poll.proofs.Keeping.{answered_of, counts_of, fed_on, settled_at}
use Rattle.gw_poll.proofs.Stepping.{calm, gives_up_stuck}
use Rattle.gw_poll.specs.Histories.{no_call}
use Rattle.gw_poll.proofs.course.Course.next.Goals as goal

pub next-requires-clause-answered : goal.next-requires-clause-answered
next-requires-clause-answered c = answered_of c.args.self.now.conn.stage (settled_at c.args.self.now c.requires.going.0 c.requires.going.1 c.requires.turning)

pub returns-in-Ok-clause-goes : goal.returns-in-Ok-clause-goes
returns-in-Ok-clause-goes c = λ p h at f left o.
    let s = calm p c.args.self.now h f c.requires.turning in
    begun_goes p c.args.w.now c.next.new.w c.args.self.now (record c.args.self.now { conn = c.next.new.self }) c.begin.new.self h c.in-Ok.turn c.begin.result c.begin.ensures.begun c.requires.turning f c.requires.turning
    (c.in-Ok.ensures.goes p h.bytes h.parts h.text at s.0) c.next.ensures.over no_call left o

pub returns-in-Ok-clause-going : goal.returns-in-Ok-clause-going
returns-in-Ok-clause-going c = λ bytes going.
    begun_going (record c.args.self.now { conn = c.next.new.self }) c.begin.new.self c.in-Ok.turn c.begin.result bytes c.begin.ensures.begun c.requires.turning c.in-Ok.ensures.behind
    (fed_on c.args.self.now.conn c.next.new.self bytes c.next.ensures.inlet going.fed) (λ need. c.next.ensures.unfinished (c.in-Ok.is ∙ ap Ok need) bytes going.fed)

pub returns-in-Ok-clause-held : goal.returns-in-Ok-clause-held
returns-in-Ok-clause-held c = λ at.
    begun_held (record c.args.self.now { conn = c.next.new.self }) c.begin.new.self c.in-Ok.turn c.begin.result at c.begin.ensures.begun c.requires.turning

pub returns-in-Ok-clause-more : goal.returns-in-Ok-clause-more
returns-in-Ok-clause-more c = λ is.
    begun_more (record c.args.self.now { conn = c.next.new.self }) c.begin.new.self c.in-Ok.turn c.begin.result c.begin.ensures.begun (cc is)

pub returns-in-Ok-clause-ended : goal.returns-in-Ok-clause-ended
returns-in-Ok-clause-ended c = λ why is.
    begun_ended (record c.args.self.now { conn = c.next.new.self }) c.begin.new.self c.in-Ok.turn c.begin.result why c.begin.ensures.begun c.requires.turning c.in-Ok.ensures.behind is

pub returns-in-Ok-clause-fewer : goal.returns-in-Ok-clause-fewer
returns-in-Ok-clause-fewer c = λ is bytes going.
    begun_fewer c.args.self.now (record c.args.self.now { conn = c.next.new.self }) c.begin.new.self c.in-Ok.turn c.begin.result c.begin.ensures.begun c.requires.turning
    (c.in-Ok.ensures.fewer bytes going.fed) (cc is)

pub returns-in-Err-clause-broke : goal.returns-in-Err-clause-broke
returns-in-Err-clause-broke c = λ p h at f left o.
    let s = calm p c.args.self.now h f c.requires.turning in
    gives_up_stuck p _ _ c.args.self.now _ h f c.requires.turning (settled_at c.args.self.now c.requires.going.0 c.requires.going.1 c.requires.turning)
    (c.in-Err.ensures.err p h.bytes h.parts h.text at s.0) c.in-Err.ensures.rows no_call left o

pub returns-in-Err-clause-refused : goal.returns-in-Err-clause-refused
returns-in-Err-clause-refused c = counts_of c.in-Err.fault c.from.result _ _ c.from.ensures c.in-Err.ensures.refused
