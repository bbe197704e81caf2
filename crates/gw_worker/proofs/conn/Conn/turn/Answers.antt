-- What each turn makes of the connection.
use Rattle.std.proofs.Common.{ℕ, List, [], ◌∷◌, ◌++◌, None, Ok, arith, ap, refl, sym, subst, ◌∙◌}
use Rattle.gw_answers.proofs.Left.{on_err}
use Rattle.gw_frames.specs.Inlets.{is_over}
use Rattle.gw_link.proofs.PieceLemmas.{Takes-nothing}
use Rattle.gw_link.specs.declared.order.UpstreamCall.{UpstreamCall}
use Rattle.gw_text.specs.model.Addresses.{Socket}
use Rattle.gw_worker.proofs.Exchanging.{whole_sent}
use Rattle.gw_worker.proofs.Staying.{link_self, up_self}
use Rattle.gw_worker.proofs.Stepping.{fed_on, goes_itself, goes_then}
use Rattle.gw_worker.proofs.Turning.{broke_asked, broke_before, broke_reply, broke_write, took_end, took_exchange, took_need, took_write}
use Rattle.gw_worker.specs.Conns.{StandsFor}
use Rattle.gw_worker.specs.Flows.{BrokeOff, Outside, TookTo, outside}
use Rattle.gw_worker.specs.Stays.{PassStays}
use Rattle.gw_worker.specs.Workers.{IsAt}
use Rattle.gw_worker.specs.model.Workers.{Worker}
use Rattle.gw_worker.specs.model.Sessions.{Part, Place}
use Rattle.gw_worker.proofs.conn.Conn.turn.Goals as goal

pub returns-in_err-next-clause-broke : goal.returns-in_err-next-clause-broke
returns-in_err-next-clause-broke g c =
    let refuses : UpstreamCall → Socket → Type 0 = g.U.Upstream.refuses c.args.up.now c.args.up.now in
    let o : Outside = outside (g.K.Link.written c.args.link.now) (g.U.Upstream.exchanges c.args.up.now) (g.U.Upstream.faults c.args.up.now) in
    let broke : (p : Place) (bytes : List ℕ) (parts : List Part) (text : List ℕ) → IsAt c.args.w.now p → StandsFor c.args.self.now p bytes parts text
    → BrokeOff refuses p c.args.w.now c.next.new.w c.next.new.self bytes parts text o o = λ p bytes parts text at s.
    broke_before refuses p c.args.w.now c.next.new.w c.args.self.now c.next.new.self bytes parts text o s c.requires.settled
    c.in_err-next.ensures.rows (c.in_err-next.ensures.err p bytes parts text at s) in
    on_err _ broke

pub returns-in_err-write-in-Write-clause-broke : goal.returns-in_err-write-in-Write-clause-broke
returns-in_err-write-in-Write-clause-broke g c =
    let refuses : UpstreamCall → Socket → Type 0 = g.U.Upstream.refuses c.args.up.now c.args.up.now in
    let o : Outside = outside (g.K.Link.written c.args.link.now) (g.U.Upstream.exchanges c.args.up.now) (g.U.Upstream.faults c.args.up.now) in
    let o' : Outside = outside (g.K.Link.written c.write.new.link) (g.U.Upstream.exchanges c.args.up.now) (g.U.Upstream.faults c.args.up.now) in
    let broke : (p : Place) (bytes : List ℕ) (parts : List Part) (text : List ℕ) → IsAt c.args.w.now p → StandsFor c.args.self.now p bytes parts text
    → BrokeOff refuses p c.args.w.now c.next.new.w c.next.new.self bytes parts text o o' = λ p bytes parts text at s.
    broke_write refuses p c.args.w.now c.next.new.w c.next.new.self bytes parts text c.in-Write.text o.written o'.written o.exchanges o.faults
    (rw c.in-Write.is at (c.in_ok-next.ensures.goes p bytes parts text at s)) (rw c.in-Write.is at c.in_ok-next.ensures.behind) c.in_err-write-in-Write.ensures.err in
    on_err _ broke

pub returns-in_err-answer-in-Exchange-clause-broke : goal.returns-in_err-answer-in-Exchange-clause-broke
returns-in_err-answer-in-Exchange-clause-broke g c =
    let refuses : UpstreamCall → Socket → Type 0 = g.U.Upstream.refuses c.args.up.now c.ask.new.up in
    let e = c.in_err-answer-in-Exchange.ensures.broke in
    let o : Outside = outside (g.K.Link.written c.args.link.now) (g.U.Upstream.exchanges c.args.up.now) (g.U.Upstream.faults c.args.up.now) in
    let o' : Outside = outside (g.K.Link.written c.args.link.now) (g.U.Upstream.exchanges c.ask.new.up) (g.U.Upstream.faults c.ask.new.up) in
    let broke : (p : Place) (bytes : List ℕ) (parts : List Part) (text : List ℕ) → IsAt c.args.w.now p → StandsFor c.args.self.now p bytes parts text
    → BrokeOff refuses p c.args.w.now c.next.new.w c.next.new.self bytes parts text o o' = λ p bytes parts text at s.
    broke_asked refuses p c.args.w.now c.next.new.w c.args.self.now c.next.new.self c.next.new.self bytes parts text c.in-Exchange.to c.in-Exchange.bytes c.in-Exchange.head
    (e.0 ∷ []) o.written o'.written o.exchanges o'.exchanges o.faults o'.faults s c.requires.settled
    (rw c.in-Exchange.is at (c.in_ok-next.ensures.goes p bytes parts text at s)) (rw c.in-Exchange.is at c.in_ok-next.ensures.behind) refl refl (Takes-nothing o.written)
    (whole_sent c.in-Exchange.to c.in-Exchange.bytes (e.0 ∷ []) e.0 refl e.1.0 e.1.1) e.1.2 c.ask.ensures.up.later in
    on_err _ broke

pub returns-in_err-reply_with-in-Exchange-clause-broke : goal.returns-in_err-reply_with-in-Exchange-clause-broke
returns-in_err-reply_with-in-Exchange-clause-broke g c =
    let refuses : UpstreamCall → Socket → Type 0 = g.U.Upstream.refuses c.args.up.now c.ask.new.up in
    let o : Outside = outside (g.K.Link.written c.args.link.now) (g.U.Upstream.exchanges c.args.up.now) (g.U.Upstream.faults c.args.up.now) in
    let o' : Outside = outside (g.K.Link.written c.reply_with.new.link) (g.U.Upstream.exchanges c.ask.new.up) (g.U.Upstream.faults c.ask.new.up) in
    let broke : (p : Place) (bytes : List ℕ) (parts : List Part) (text : List ℕ) → IsAt c.args.w.now p → StandsFor c.args.self.now p bytes parts text
    → BrokeOff refuses p c.args.w.now c.reply_with.new.w c.reply_with.new.self bytes parts text o o' = λ p bytes parts text at s.
    let k = rw c.in-Exchange.is at (c.in_ok-next.ensures.goes p bytes parts text at s) in
    subst (λ (w : Worker). BrokeOff refuses p c.args.w.now w c.reply_with.new.self bytes parts text o o') (sym c.reply_with.ensures.worker)
    (broke_reply refuses p c.args.w.now c.next.new.w c.args.self.now c.next.new.self c.reply_with.new.self bytes parts text c.in-Exchange.to c.in-Exchange.bytes c.in-Exchange.head
    c.in_ok-answer-in-Exchange.answer o.written o'.written o.exchanges o'.exchanges o.faults o'.faults s c.requires.settled
    k (rw c.in-Exchange.is at c.in_ok-next.ensures.behind) c.in_ok-answer-in-Exchange.ensures.met c.ask.ensures.up.later c.reply_with.ensures.inlet
    (c.in_err-reply_with-in-Exchange.ensures.broke p bytes (parts ++ k.more) (text ++ []) k.stands)) in
    on_err _ broke

pub returns-in_err-reply_with-in-Exchange-clause-inlet : goal.returns-in_err-reply_with-in-Exchange-clause-inlet
returns-in_err-reply_with-in-Exchange-clause-inlet g c = goes_then c.args.self.now.inlet c.next.new.self.inlet c.reply_with.new.self.inlet c.next.ensures.inlet (goes_itself c.next.new.self.inlet c.reply_with.new.self.inlet c.reply_with.ensures.inlet)

pub returns-in-Need-clause-took : goal.returns-in-Need-clause-took
returns-in-Need-clause-took g c = λ p bytes parts text at s.
    took_need (g.U.Upstream.refuses c.args.up.now c.args.up.now) p c.args.w.now c.next.new.w c.next.new.self bytes parts text _ (rw c.in-Need.is at (c.in_ok-next.ensures.goes p bytes parts text at s))

pub returns-in-Need-clause-unfinished : goal.returns-in-Need-clause-unfinished
returns-in-Need-clause-unfinished g c = λ is bytes fed. c.in_ok-next.ensures.unfinished (ap Ok c.in-Need.is) bytes fed

pub returns-in-Ended-clause-took : goal.returns-in-Ended-clause-took
returns-in-Ended-clause-took g c = λ p bytes parts text at s.
    took_end (g.U.Upstream.refuses c.args.up.now c.args.up.now) p c.args.w.now c.next.new.w c.next.new.self bytes parts text c.in-Ended.why _ (rw c.in-Ended.is at (c.in_ok-next.ensures.goes p bytes parts text at s))

pub returns-in_ok-write-in-Write-clause-took : goal.returns-in_ok-write-in-Write-clause-took
returns-in_ok-write-in-Write-clause-took g c = λ p bytes parts text at s.
    took_write (g.U.Upstream.refuses c.args.up.now c.args.up.now) p c.args.w.now c.next.new.w c.next.new.self bytes parts text c.in-Write.text _ _ _ _
    (rw c.in-Write.is at (c.in_ok-next.ensures.goes p bytes parts text at s)) c.in_ok-write-in-Write.ensures.ok

pub returns-in_ok-write-in-Write-clause-fewer : goal.returns-in_ok-write-in-Write-clause-fewer
returns-in_ok-write-in-Write-clause-fewer g c = λ is bytes fed. rw c.in-Write.is at (c.in_ok-next.ensures.fewer bytes fed)

pub returns-in_ok-reply_with-in-Exchange-clause-took : goal.returns-in_ok-reply_with-in-Exchange-clause-took
returns-in_ok-reply_with-in-Exchange-clause-took g c = λ p bytes parts text at s.
    let refuses : UpstreamCall → Socket → Type 0 = g.U.Upstream.refuses c.args.up.now c.ask.new.up in
    let k = rw c.in-Exchange.is at (c.in_ok-next.ensures.goes p bytes parts text at s) in
    let o : Outside = outside (g.K.Link.written c.args.link.now) (g.U.Upstream.exchanges c.args.up.now) (g.U.Upstream.faults c.args.up.now) in
    let o' : Outside = outside (g.K.Link.written c.reply_with.new.link) (g.U.Upstream.exchanges c.ask.new.up) (g.U.Upstream.faults c.ask.new.up) in
    subst (λ (w : Worker). TookTo refuses p c.args.w.now w c.reply_with.new.self bytes (is_over c.reply_with.new.self.inlet) parts text o o' None) (sym c.reply_with.ensures.worker)
    (took_exchange refuses p c.args.w.now c.next.new.w c.next.new.self c.reply_with.new.self bytes parts text c.in-Exchange.to c.in-Exchange.bytes c.in-Exchange.head
    c.in_ok-answer-in-Exchange.answer o.written o'.written o.exchanges o'.exchanges o.faults o'.faults k c.in_ok-answer-in-Exchange.ensures.met c.ask.ensures.up.later
    (c.in_ok-reply_with-in-Exchange.ensures.replied p bytes (parts ++ k.more) (text ++ []) k.stands))

pub returns-in_ok-reply_with-in-Exchange-clause-fewer : goal.returns-in_ok-reply_with-in-Exchange-clause-fewer
returns-in_ok-reply_with-in-Exchange-clause-fewer g c = λ is bytes fed.
    let first = rw c.in-Exchange.is at (c.in_ok-next.ensures.fewer bytes fed) in
    let second = c.in_ok-reply_with-in-Exchange.ensures.fewer bytes (fed_on c.args.self.now c.next.new.self bytes c.next.ensures.inlet fed) in
    omega (arith, first, second)

pub returns-in_ok-reply_with-in-Exchange-clause-inlet : goal.returns-in_ok-reply_with-in-Exchange-clause-inlet
returns-in_ok-reply_with-in-Exchange-clause-inlet g c = goes_then c.args.self.now.inlet c.next.new.self.inlet c.reply_with.new.self.inlet c.next.ensures.inlet (goes_itself c.next.new.self.inlet c.reply_with.new.self.inlet c.reply_with.ensures.inlet)

pub returns-in_err-reply_with-in-Exchange-clause-over : goal.returns-in_err-reply_with-in-Exchange-clause-over
returns-in_err-reply_with-in-Exchange-clause-over g c = ap is_over c.reply_with.ensures.inlet ∙ c.next.ensures.over

pub returns-in_ok-reply_with-in-Exchange-clause-over : goal.returns-in_ok-reply_with-in-Exchange-clause-over
returns-in_ok-reply_with-in-Exchange-clause-over g c = ap is_over c.reply_with.ensures.inlet ∙ c.next.ensures.over

pub returns-in_err-next-clause-link : goal.returns-in_err-next-clause-link
returns-in_err-next-clause-link g c = link_self g.K.Link _

pub returns-in-Need-clause-link : goal.returns-in-Need-clause-link
returns-in-Need-clause-link g c = link_self g.K.Link _

pub returns-in-Ended-clause-link : goal.returns-in-Ended-clause-link
returns-in-Ended-clause-link g c = link_self g.K.Link _

pub returns-in_err-answer-in-Exchange-clause-link : goal.returns-in_err-answer-in-Exchange-clause-link
returns-in_err-answer-in-Exchange-clause-link g c = link_self g.K.Link _

pub returns-in_err-next-clause-up : goal.returns-in_err-next-clause-up
returns-in_err-next-clause-up g c = up_self g.U.Upstream g.met.U.Upstream.becomes_self _

pub returns-in-Need-clause-up : goal.returns-in-Need-clause-up
returns-in-Need-clause-up g c = up_self g.U.Upstream g.met.U.Upstream.becomes_self _

pub returns-in-Ended-clause-up : goal.returns-in-Ended-clause-up
returns-in-Ended-clause-up g c = up_self g.U.Upstream g.met.U.Upstream.becomes_self _

pub returns-in_err-write-in-Write-clause-up : goal.returns-in_err-write-in-Write-clause-up
returns-in_err-write-in-Write-clause-up g c = up_self g.U.Upstream g.met.U.Upstream.becomes_self _

pub returns-in_ok-write-in-Write-clause-up : goal.returns-in_ok-write-in-Write-clause-up
returns-in_ok-write-in-Write-clause-up g c = up_self g.U.Upstream g.met.U.Upstream.becomes_self _

pub returns-in_err-next-clause-pass : goal.returns-in_err-next-clause-pass
returns-in_err-next-clause-pass g c = record { later = c.next.ensures.later; fixed = c.next.ensures.fixed; book = c.next.ensures.book; ahead = c.next.ensures.ahead }

pub returns-in-Need-clause-pass : goal.returns-in-Need-clause-pass
returns-in-Need-clause-pass g c = record { later = c.next.ensures.later; fixed = c.next.ensures.fixed; book = c.next.ensures.book; ahead = c.next.ensures.ahead }

pub returns-in-Ended-clause-pass : goal.returns-in-Ended-clause-pass
returns-in-Ended-clause-pass g c = record { later = c.next.ensures.later; fixed = c.next.ensures.fixed; book = c.next.ensures.book; ahead = c.next.ensures.ahead }

pub returns-in_err-write-in-Write-clause-pass : goal.returns-in_err-write-in-Write-clause-pass
returns-in_err-write-in-Write-clause-pass g c = record { later = c.next.ensures.later; fixed = c.next.ensures.fixed; book = c.next.ensures.book; ahead = c.next.ensures.ahead }

pub returns-in_ok-write-in-Write-clause-pass : goal.returns-in_ok-write-in-Write-clause-pass
returns-in_ok-write-in-Write-clause-pass g c = record { later = c.next.ensures.later; fixed = c.next.ensures.fixed; book = c.next.ensures.book; ahead = c.next.ensures.ahead }

pub returns-in_err-answer-in-Exchange-clause-pass : goal.returns-in_err-answer-in-Exchange-clause-pass
returns-in_err-answer-in-Exchange-clause-pass g c = record { later = c.next.ensures.later; fixed = c.next.ensures.fixed; book = c.next.ensures.book; ahead = c.next.ensures.ahead }

pub returns-in_err-reply_with-in-Exchange-clause-pass : goal.returns-in_err-reply_with-in-Exchange-clause-pass
returns-in_err-reply_with-in-Exchange-clause-pass g c =
    subst (PassStays c.args.w.now) (sym c.reply_with.ensures.worker) (record { later = c.next.ensures.later; fixed = c.next.ensures.fixed; book = c.next.ensures.book; ahead = c.next.ensures.ahead })

pub returns-in_ok-reply_with-in-Exchange-clause-pass : goal.returns-in_ok-reply_with-in-Exchange-clause-pass
returns-in_ok-reply_with-in-Exchange-clause-pass g c =
    subst (PassStays c.args.w.now) (sym c.reply_with.ensures.worker) (record { later = c.next.ensures.later; fixed = c.next.ensures.fixed; book = c.next.ensures.book; ahead = c.next.ensures.ahead })
