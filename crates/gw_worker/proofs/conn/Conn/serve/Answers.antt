-- One turn more.
use Rattle.std.proofs.Common.{◌≡◌, ℕ, List, ◌++◌, Some, Ok, ap, refl, ◌∙◌}
use Rattle.gw_answers.proofs.Left.{on_err}
use Rattle.gw_link.specs.declared.order.UpstreamCall.{UpstreamCall}
use Rattle.gw_text.specs.model.Addresses.{Socket}
use Rattle.gw_worker.proofs.Going.{served_then, still_at, took_and_broke, took_then}
use Rattle.gw_worker.proofs.Staying.{link_self, link_then, pass_self, pass_then, up_self, up_then}
use Rattle.gw_worker.proofs.Stepping.{fed_on, goes_itself, goes_then}
use Rattle.gw_worker.proofs.Turning.{took_none}
use Rattle.gw_worker.specs.Conns.{StandsFor}
use Rattle.gw_worker.specs.Flows.{BrokeOff, Outside, outside}
use Rattle.gw_worker.specs.Workers.{IsAt}
use Rattle.gw_worker.specs.declared.serve.Flow.TheVariants as flows
use Rattle.gw_worker.specs.model.Sessions.{Part, Place}
use Rattle.gw_worker.proofs.conn.Conn.serve.Goals as goal

pub turns-init : goal.turns-init
turns-init g c = record {
  took = λ p bytes parts text at s. took_none (g.U.Upstream.refuses c.args.up.now c.args.up.now) p c.args.w.now c.args.self.now bytes parts text _ s;
  settled = c.requires.settled;
  inlet = goes_itself c.args.self.now.inlet c.args.self.now.inlet refl;
  over = refl;
  refused = refl;
  link = link_self g.K.Link _;
  up = up_self g.U.Upstream g.met.U.Upstream.becomes_self _;
  pass = pass_self _;
  door = refl;
}

pub returns-in_err-flow-clause-broke : goal.returns-in_err-flow-clause-broke
returns-in_err-flow-clause-broke g c =
    let refuses = g.U.Upstream.refuses in
    let first = c.args.up.now in
    let middle = c.turns.up in
    let last = c.turn.new.up in
    let still = λ (call : UpstreamCall) (to : Socket) (refused : refuses first middle call to). g.met.U.Upstream.refuses_still first middle last call to refused c.turn.ensures.up.becomes in
    let later = λ (call : UpstreamCall) (to : Socket) (refused : refuses middle last call to). g.met.U.Upstream.refuses_later first middle last call to c.turns.invariant.up.becomes refused in
    let o : Outside = outside (g.K.Link.written c.args.link.now) (g.U.Upstream.exchanges c.args.up.now) (g.U.Upstream.faults c.args.up.now) in
    let o' : Outside = outside (g.K.Link.written c.turn.new.link) (g.U.Upstream.exchanges c.turn.new.up) (g.U.Upstream.faults c.turn.new.up) in
    let broke : (p : Place) (bytes : List ℕ) (parts : List Part) (text : List ℕ) → IsAt c.args.w.now p → StandsFor c.args.self.now p bytes parts text
    → BrokeOff (refuses first last) p c.args.w.now c.turn.new.w c.turn.new.self bytes parts text o o' = λ p bytes parts text at s.
    let t = c.turns.invariant.took p bytes parts text at s in
    took_and_broke (refuses first middle) (refuses middle last) (refuses first last) p c.args.w.now c.turns.w c.turn.new.w c.turns.self c.turn.new.self bytes bytes parts text o _ o' still later t
    (c.in_err-flow.ensures.broke p bytes (parts ++ t.more) (text ++ t.wrote) (still_at p c.args.w.now c.turns.w c.turns.invariant.pass.fixed at) t.stands) in
    on_err _ broke

pub returns-in_err-flow-clause-inlet : goal.returns-in_err-flow-clause-inlet
returns-in_err-flow-clause-inlet g c = goes_then c.args.self.now.inlet c.turns.self.inlet c.turn.new.self.inlet c.turns.invariant.inlet c.turn.ensures.inlet

pub returns-in-Some-clause-served : goal.returns-in-Some-clause-served
returns-in-Some-clause-served g c = λ p bytes parts text at s.
    let refuses = g.U.Upstream.refuses in
    let first = c.args.up.now in
    let middle = c.turns.up in
    let last = c.turn.new.up in
    let still = λ (call : UpstreamCall) (to : Socket) (refused : refuses first middle call to). g.met.U.Upstream.refuses_still first middle last call to refused c.turn.ensures.up.becomes in
    let later = λ (call : UpstreamCall) (to : Socket) (refused : refuses middle last call to). g.met.U.Upstream.refuses_later first middle last call to c.turns.invariant.up.becomes refused in
    let t = c.turns.invariant.took p bytes parts text at s in
    served_then (refuses first middle) (refuses middle last) (refuses first last) p c.args.w.now c.turns.w c.turn.new.w c.turns.self c.turn.new.self bytes bytes _ parts text _ _ _ c.in-Some.flow still later t
    (rw c.in-Some.is at (c.in_ok-flow.ensures.took p bytes (parts ++ t.more) (text ++ t.wrote) (still_at p c.args.w.now c.turns.w c.turns.invariant.pass.fixed at) t.stands))

pub returns-in-Some-clause-unfinished : goal.returns-in-Some-clause-unfinished
returns-in-Some-clause-unfinished g c = λ is bytes fed.
    let more : c.in-Some.flow ≡ flows.More = cc is in
    c.in_ok-flow.ensures.unfinished (ap Ok (c.in-Some.is ∙ ap Some more)) bytes
    (fed_on c.args.self.now c.turns.self bytes c.turns.invariant.inlet fed)

pub returns-in-Some-clause-inlet : goal.returns-in-Some-clause-inlet
returns-in-Some-clause-inlet g c = goes_then c.args.self.now.inlet c.turns.self.inlet c.turn.new.self.inlet c.turns.invariant.inlet c.turn.ensures.inlet

pub turns-smaller : goal.turns-smaller
turns-smaller g c =
    c.in_ok-flow.ensures.fewer (ap Ok c.in_default.is) c.requires.fed.0
    (fed_on c.args.self.now c.turns.self c.requires.fed.0 c.turns.invariant.inlet c.requires.fed.1)

pub turns-preserved : goal.turns-preserved
turns-preserved g c =
    let refuses = g.U.Upstream.refuses in
    let first = c.args.up.now in
    let middle = c.turns.up in
    let last = c.turn.new.up in
    let still = λ (call : UpstreamCall) (to : Socket) (refused : refuses first middle call to). g.met.U.Upstream.refuses_still first middle last call to refused c.turn.ensures.up.becomes in
    let later = λ (call : UpstreamCall) (to : Socket) (refused : refuses middle last call to). g.met.U.Upstream.refuses_later first middle last call to c.turns.invariant.up.becomes refused in
    record {
      took = λ p bytes parts text at s.
          let t = c.turns.invariant.took p bytes parts text at s in
          let u = c.in_ok-flow.ensures.took p bytes (parts ++ t.more) (text ++ t.wrote) (still_at p c.args.w.now c.turns.w c.turns.invariant.pass.fixed at) t.stands in
          took_then (refuses first middle) (refuses middle last) (refuses first last) p c.args.w.now c.turns.w c.turn.new.w c.turns.self c.turn.new.self bytes bytes parts text _ _ _ still later t u.took;
      settled = c.in_ok-flow.ensures.settled;
      inlet = goes_then c.args.self.now.inlet c.turns.self.inlet c.turn.new.self.inlet c.turns.invariant.inlet c.turn.ensures.inlet;
      over = c.turn.ensures.over ∙ c.turns.invariant.over;
      refused = c.in_ok-flow.ensures.ok ∙ c.turns.invariant.refused;
      link = link_then g.K.Link _ _ _ c.turns.invariant.link c.turn.ensures.link;
      up = up_then g.U.Upstream g.met.U.Upstream.becomes_then _ _ _ c.turns.invariant.up c.turn.ensures.up;
      pass = pass_then _ _ _ c.turns.invariant.pass c.turn.ensures.pass;
      door = c.turn.ensures.door ∙ c.turns.invariant.door;
    }

pub returns-in_err-flow-clause-link : goal.returns-in_err-flow-clause-link
returns-in_err-flow-clause-link g c = link_then g.K.Link _ _ _ c.turns.invariant.link c.turn.ensures.link

pub returns-in_err-flow-clause-up : goal.returns-in_err-flow-clause-up
returns-in_err-flow-clause-up g c = up_then g.U.Upstream g.met.U.Upstream.becomes_then _ _ _ c.turns.invariant.up c.turn.ensures.up

pub returns-in_err-flow-clause-pass : goal.returns-in_err-flow-clause-pass
returns-in_err-flow-clause-pass g c = pass_then _ _ _ c.turns.invariant.pass c.turn.ensures.pass

pub returns-in-Some-clause-link : goal.returns-in-Some-clause-link
returns-in-Some-clause-link g c = link_then g.K.Link _ _ _ c.turns.invariant.link c.turn.ensures.link

pub returns-in-Some-clause-up : goal.returns-in-Some-clause-up
returns-in-Some-clause-up g c = up_then g.U.Upstream g.met.U.Upstream.becomes_then _ _ _ c.turns.invariant.up c.turn.ensures.up

pub returns-in-Some-clause-pass : goal.returns-in-Some-clause-pass
returns-in-Some-clause-pass g c = pass_then _ _ _ c.turns.invariant.pass c.turn.ensures.pass
