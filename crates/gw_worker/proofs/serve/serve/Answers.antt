-- A piece more.
use Rattle.std.proofs.Common.{ℕ, List, [], ◌++◌, take, Ok, ap, refl, ◌∙◌, arith, length-append}
use Rattle.std.proofs.lemmas.List.{length-take-le}
use Rattle.gw_answers.proofs.Left.{on_err}
use Rattle.gw_link.proofs.PieceLemmas.{Gives-more, Gives-nothing}
use Rattle.gw_link.specs.declared.order.UpstreamCall.{UpstreamCall}
use Rattle.gw_text.specs.model.Addresses.{Socket}
use Rattle.gw_worker.proofs.Going.{still_at}
use Rattle.gw_worker.proofs.Linking.{broke_settled, calm, empty_size, fed_first, fed_more, ran_on, stopped_on, took_first, took_kept, took_on}
use Rattle.gw_worker.proofs.Staying.{pass_self, pass_then, up_self, up_then}
use Rattle.gw_link.proofs.KeptLemmas.{end_kept, gives_kept}
use Rattle.gw_worker.specs.Conns.{StandsFor}
use Rattle.gw_worker.specs.Flows.{Outside, outside}
use Rattle.gw_worker.specs.Links.{Stopped}
use Rattle.gw_worker.specs.Workers.{IsAt}
use Rattle.gw_worker.specs.model.Sessions.{Part, Place}
use Rattle.gw_worker.proofs.serve.serve.Goals as goal

pub pieces-init : goal.pieces-init
pieces-init g c = record {
  took = ([], (Gives-nothing _, fed_first c.args.conn.now, (λ p bytes parts text at s. took_first (g.U.Upstream.refuses c.args.up.now c.args.up.now) p c.args.w.now c.args.conn.now bytes parts text _ s), refl));
  few = omega arith;
  serving = c.requires.serving;
  link_later = omega arith;
  refused = refl;
  up = up_self g.U.Upstream g.met.U.Upstream.becomes_self _;
  pass = pass_self _;
  door = refl;
}

pub returns-in-Err-clause-stopped : goal.returns-in-Err-clause-stopped
returns-in-Err-clause-stopped g c = λ p bytes parts text at s.
    let refuses : UpstreamCall → Socket → Type 0 = g.U.Upstream.refuses c.args.up.now c.pieces.up in
    let i = c.pieces.invariant.took in
    record {
      piece = i.0;
      taken = gives_kept _ _ _ i.0 i.1.0 c.in-Err.ensures.kept;
      few = omega (arith, i.1.3, c.pieces.invariant.few);
      broke = broke_settled refuses p c.args.w.now c.pieces.w c.pieces.conn (bytes ++ i.0) parts text _ _
          (took_kept refuses p c.args.w.now c.pieces.w c.pieces.conn (bytes ++ i.0) parts text _ _ _ _ _ (i.1.2 p bytes parts text at s) c.in-Err.ensures.unwritten)
          (calm _ c.pieces.invariant.serving.reading);
    }

pub returns-in_err-take-clause-stopped : goal.returns-in_err-take-clause-stopped
returns-in_err-take-clause-stopped g c =
    let refuses = g.U.Upstream.refuses in
    let first = c.args.up.now in
    let middle = c.pieces.up in
    let last = c.take.new.up in
    let still = λ (call : UpstreamCall) (to : Socket) (refused : refuses first middle call to). g.met.U.Upstream.refuses_still first middle last call to refused c.take.ensures.becomes in
    let later = λ (call : UpstreamCall) (to : Socket) (refused : refuses middle last call to). g.met.U.Upstream.refuses_later first middle last call to c.pieces.invariant.up.becomes refused in
    let size = length-take-le c.in-Ok.size c.read.new.buf c.in-Ok.ensures.within in
    let i = c.pieces.invariant.took in
    let piece : List ℕ = take c.in-Ok.size c.read.new.buf in
    let o : Outside = outside (g.K.Link.written c.args.link.now) (g.U.Upstream.exchanges c.args.up.now) (g.U.Upstream.faults c.args.up.now) in
    let o' : Outside = outside (g.K.Link.written c.take.new.link) (g.U.Upstream.exchanges c.take.new.up) (g.U.Upstream.faults c.take.new.up) in
    let stopped : (p : Place) (bytes : List ℕ) (parts : List Part) (text : List ℕ) → IsAt c.args.w.now p → StandsFor c.args.conn.now p bytes parts text
    → Stopped (refuses first last) p c.args.w.now c.take.new.w c.take.new.self bytes parts text (g.K.Link.left c.args.link.now) (g.K.Link.left c.take.new.link) o o' = λ p bytes parts text at s.
    let t = took_kept (refuses first middle) p c.args.w.now c.pieces.w c.pieces.conn (bytes ++ i.0) parts text _ _ _ _ _ (i.1.2 p bytes parts text at s) c.in-Ok.ensures.unwritten in
    stopped_on (refuses first middle) (refuses middle last) (refuses first last) p c.args.w.now c.pieces.w c.take.new.w c.pieces.conn c.take.new.self bytes i.0 piece parts text _ _ o _ o' still later t
    (c.in_err-take.ensures.broke p (bytes ++ i.0) (parts ++ t.more) (text ++ t.wrote) (still_at p c.args.w.now c.pieces.w c.pieces.invariant.pass.fixed at) t.stands)
    (gives_kept _ _ _ (i.0 ++ piece) (Gives-more _ _ _ i.0 piece i.1.0 c.in-Ok.ensures.gives) c.take.ensures.unread)
    (omega (arith, i.1.3, size, c.pieces.invariant.few, c.in-Ok.ensures.within, c.read.auto.buf, length-append i.0 piece)) in
    on_err _ stopped

pub returns-in-Ended-clause-ran : goal.returns-in-Ended-clause-ran
returns-in-Ended-clause-ran g c = λ p bytes parts text at s.
    let refuses = g.U.Upstream.refuses in
    let first = c.args.up.now in
    let middle = c.pieces.up in
    let last = c.take.new.up in
    let still = λ (call : UpstreamCall) (to : Socket) (refused : refuses first middle call to). g.met.U.Upstream.refuses_still first middle last call to refused c.take.ensures.becomes in
    let later = λ (call : UpstreamCall) (to : Socket) (refused : refuses middle last call to). g.met.U.Upstream.refuses_later first middle last call to c.pieces.invariant.up.becomes refused in
    let size = length-take-le c.in-Ok.size c.read.new.buf c.in-Ok.ensures.within in
    let i = c.pieces.invariant.took in
    let piece : List ℕ = take c.in-Ok.size c.read.new.buf in
    let t = took_kept (refuses first middle) p c.args.w.now c.pieces.w c.pieces.conn (bytes ++ i.0) parts text _ _ _ _ _ (i.1.2 p bytes parts text at s) c.in-Ok.ensures.unwritten in
    let gives = Gives-more _ _ _ i.0 piece i.1.0 c.in-Ok.ensures.gives in
    ran_on (refuses first middle) (refuses middle last) (refuses first last) p c.args.w.now c.pieces.w c.take.new.w c.pieces.conn c.take.new.self bytes i.0 piece _ parts text _ _ _ _ _ c.in-Ended.why still later t
    (rw c.in-Ended.is at (c.in_ok-take.ensures.served p (bytes ++ i.0) (parts ++ t.more) (text ++ t.wrote) (still_at p c.args.w.now c.pieces.w c.pieces.invariant.pass.fixed at) t.stands))
    (gives_kept _ _ _ (i.0 ++ piece) gives c.take.ensures.unread)
    (omega (arith, i.1.3, size, c.pieces.invariant.few, c.in-Ok.ensures.within, c.read.auto.buf, length-append i.0 piece))
    (λ over. end_kept _ _ _ (i.0 ++ piece) gives (c.in-Ok.ensures.ends (ap Ok (empty_size c.in-Ok.size c.read.new.buf c.in-Ok.ensures.within over))) c.take.ensures.unread)

pub pieces-preserved : goal.pieces-preserved
pieces-preserved g c =
    let refuses = g.U.Upstream.refuses in
    let first = c.args.up.now in
    let middle = c.pieces.up in
    let last = c.take.new.up in
    let still = λ (call : UpstreamCall) (to : Socket) (refused : refuses first middle call to). g.met.U.Upstream.refuses_still first middle last call to refused c.take.ensures.becomes in
    let later = λ (call : UpstreamCall) (to : Socket) (refused : refuses middle last call to). g.met.U.Upstream.refuses_later first middle last call to c.pieces.invariant.up.becomes refused in
    let i = c.pieces.invariant.took in
    let piece : List ℕ = take c.in-Ok.size c.read.new.buf in
    let size = length-take-le c.in-Ok.size c.read.new.buf c.in-Ok.ensures.within in
    let more = ap Ok c.in-More.is in
    let few = c.in_ok-take.ensures.short more (c.requires.serving.bytes ++ i.0) (i.1.1 c.requires.serving.bytes c.requires.serving.fed) in
    record {
      took = (
        i.0 ++ piece,
        (
          gives_kept _ _ _ (i.0 ++ piece) (Gives-more _ _ _ i.0 piece i.1.0 c.in-Ok.ensures.gives) c.take.ensures.unread,
          (λ bytes fed. fed_more c.take.new.self bytes i.0 piece (c.in_ok-take.ensures.short more (bytes ++ i.0) (i.1.1 bytes fed)).0),
          (λ p bytes parts text at s.
              let t = took_kept (refuses first middle) p c.args.w.now c.pieces.w c.pieces.conn (bytes ++ i.0) parts text _ _ _ _ _ (i.1.2 p bytes parts text at s) c.in-Ok.ensures.unwritten in
              let u = c.in_ok-take.ensures.served p (bytes ++ i.0) (parts ++ t.more) (text ++ t.wrote) (still_at p c.args.w.now c.pieces.w c.pieces.invariant.pass.fixed at) t.stands in
              took_on (refuses first middle) (refuses middle last) (refuses first last) p c.args.w.now c.pieces.w c.take.new.w c.pieces.conn c.take.new.self bytes i.0 piece parts text _ _ _ still later t u.took),
          omega (arith, i.1.3, size, length-append i.0 piece),
        ),
      );
      few = omega (arith, i.1.3, size, few.1, length-append (c.requires.serving.bytes ++ i.0) piece, length-append c.requires.serving.bytes i.0);
      serving = c.in_ok-take.ensures.serving more;
      link_later = omega (arith, c.pieces.invariant.link_later, c.read.ensures.counts.later, c.take.ensures.link_later);
      refused = c.in_ok-take.ensures.ok ∙ c.pieces.invariant.refused;
      up = up_then g.U.Upstream g.met.U.Upstream.becomes_then _ _ _ c.pieces.invariant.up (record { later = c.take.ensures.up_later; becomes = c.take.ensures.becomes });
      pass = pass_then _ _ _ c.pieces.invariant.pass (record { later = c.take.ensures.later; fixed = c.take.ensures.fixed; book = c.take.ensures.book; ahead = c.take.ensures.ahead });
      door = c.take.ensures.door ∙ c.pieces.invariant.door;
    }

pub returns-in_err-take-clause-up : goal.returns-in_err-take-clause-up
returns-in_err-take-clause-up g c = up_then g.U.Upstream g.met.U.Upstream.becomes_then _ _ _ c.pieces.invariant.up (record { later = c.take.ensures.up_later; becomes = c.take.ensures.becomes })

pub returns-in_err-take-clause-pass : goal.returns-in_err-take-clause-pass
returns-in_err-take-clause-pass g c = pass_then _ _ _ c.pieces.invariant.pass (record { later = c.take.ensures.later; fixed = c.take.ensures.fixed; book = c.take.ensures.book; ahead = c.take.ensures.ahead })

pub returns-in-Ended-clause-up : goal.returns-in-Ended-clause-up
returns-in-Ended-clause-up g c = up_then g.U.Upstream g.met.U.Upstream.becomes_then _ _ _ c.pieces.invariant.up (record { later = c.take.ensures.up_later; becomes = c.take.ensures.becomes })

pub returns-in-Ended-clause-pass : goal.returns-in-Ended-clause-pass
returns-in-Ended-clause-pass g c = pass_then _ _ _ c.pieces.invariant.pass (record { later = c.take.ensures.later; fixed = c.take.ensures.fixed; book = c.take.ensures.book; ahead = c.take.ensures.ahead })
