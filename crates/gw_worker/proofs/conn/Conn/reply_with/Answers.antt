-- The reply is the turn behind the answer.
use Rattle.std.proofs.Common.{ℕ, List, inr}
use Rattle.gw_answers.proofs.Left.{on_err}
use Rattle.gw_link.specs.Exchanges.{change_last}
use Rattle.gw_worker.proofs.Stepping.{write_of}
use Rattle.gw_worker.specs.Conns.{StandsFor, with_answer}
use Rattle.gw_worker.specs.Flows.{IsUnwritten}
use Rattle.gw_worker.specs.model.Sessions.{Part, Place}
use Rattle.gw_worker.proofs.conn.Conn.reply_with.Goals as goal

pub returns-in_err-write-clause-broke : goal.returns-in_err-write-clause-broke
returns-in_err-write-clause-broke g c =
    let broke : (p : Place) (bytes : List ℕ) (parts : List Part) (text : List ℕ) → StandsFor c.args.self.now p bytes parts text
    → IsUnwritten p c.args.self.now c.next.new.self bytes (change_last (with_answer c.args.answer) parts) text (g.K.Link.written c.args.link.now) (g.K.Link.written c.write.new.link) =
    λ p bytes parts text s.
    let reply = c.in_ok-text.ensures.reply c.answer.ensures.replying p bytes (change_last (with_answer c.args.answer) parts) text (c.answer.ensures.stands p bytes parts text s) in
    inr (c.in-Write.text, (rw c.in-Write.is at reply, rw c.in-Write.is at c.in_ok-text.ensures.behind, c.in_err-write.ensures.err)) in
    on_err _ broke

pub returns-in_ok-write-clause-replied : goal.returns-in_ok-write-clause-replied
returns-in_ok-write-clause-replied g c = λ p bytes parts text s.
    let reply = c.in_ok-text.ensures.reply c.answer.ensures.replying p bytes (change_last (with_answer c.args.answer) parts) text (c.answer.ensures.stands p bytes parts text s) in
    record { reply = c.in-Write.text; stands = rw c.in-Write.is at reply; written = c.in_ok-write.ensures.ok }

pub returns-in_default : goal.returns-in_default
returns-in_default g c =
    let writes = write_of c.in_ok-text.field-0 (c.in_ok-text.ensures.writes c.answer.ensures.replying) in
    absurd (c.in_default.not-Write writes.0 writes.1)
