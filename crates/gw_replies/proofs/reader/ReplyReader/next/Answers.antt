-- What a step says where nothing was given.
use Rattle.std.proofs.Common.{sym, subst}
use Rattle.gw_replies.specs.Replies.{IsOpen}
use Rattle.gw_replies.proofs.Replies.{answers_of}
use Rattle.gw_replies.proofs.reader.ReplyReader.next.Goals as goal

pub returns-in-Head-clause-answers : goal.returns-in-Head-clause-answers
returns-in-Head-clause-answers c =
    answers_of c.args.self.now c.next_open.new.self c.next_open.result (subst IsOpen (sym (rw c.waits.ensures.same at c.in-Head.is)) tt) (rw c.waits.ensures.same at c.next_open.ensures.step)

pub returns-in-Body-clause-answers : goal.returns-in-Body-clause-answers
returns-in-Body-clause-answers c =
    answers_of c.args.self.now c.next_open-in-Body.new.self c.next_open-in-Body.result (subst IsOpen (sym (rw c.waits.ensures.same at c.in-Body.is)) tt) (rw c.waits.ensures.same at c.next_open-in-Body.ensures.step)

pub returns-in-ToEnd-clause-answers : goal.returns-in-ToEnd-clause-answers
returns-in-ToEnd-clause-answers c =
    answers_of c.args.self.now c.next_open-in-ToEnd.new.self c.next_open-in-ToEnd.result (subst IsOpen (sym (rw c.waits.ensures.same at c.in-ToEnd.is)) tt) (rw c.waits.ensures.same at c.next_open-in-ToEnd.ensures.step)
