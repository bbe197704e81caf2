-- The bytes are taken, and what they give is served.
use Rattle.std.proofs.Common.{ℕ, Bool, List, [], ◌++◌, map, refl, sym, subst, ◌∙◌, append-nil}
use Rattle.std.proofs.lemmas.Result.{on_err_weaker}
use Rattle.gw_answers.proofs.Left.{on_err}
use Rattle.gw_frames.specs.Inlets.{StandsFor as InletStandsFor}
use Rattle.gw_frames.specs.model.Requests.{Step}
use Rattle.gw_link.specs.declared.order.UpstreamCall.{UpstreamCall}
use Rattle.gw_text.specs.model.Addresses.{Socket}
use Rattle.gw_worker.proofs.Going.{broke_longer}
use Rattle.gw_worker.proofs.Serving.{ok_with}
use Rattle.gw_worker.proofs.Stepping.{fed_on}
use Rattle.gw_worker.proofs.Turning.{broke_before}
use Rattle.gw_worker.specs.Conns.{IsSettled, StandsFor}
use Rattle.gw_worker.specs.Flows.{BrokeOff, Outside, Served, outside}
use Rattle.gw_worker.specs.Workers.{IsAt}
use Rattle.gw_worker.specs.model.Sessions.{Part, Place, step_of}
use Rattle.gw_worker.proofs.conn.Conn.take.Goals as goal

pub returns-in_err-feed-clause-broke : goal.returns-in_err-feed-clause-broke
returns-in_err-feed-clause-broke g c =
    let o : Outside = outside (g.K.Link.written c.args.link.now) (g.U.Upstream.exchanges c.args.up.now) (g.U.Upstream.faults c.args.up.now) in
    let refuses : UpstreamCall → Socket → Type 0 = g.U.Upstream.refuses c.args.up.now c.args.up.now in
    let calm : IsSettled c.feed.new.self.stage = subst IsSettled (sym (c.feed.ensures.stage ∙ c.requires.serving.reading)) tt in
    let broke : (p : Place) (bytes : List ℕ) (parts : List Part) (text : List ℕ) → IsAt c.args.w.now p → StandsFor c.args.self.now p bytes parts text
    → BrokeOff refuses p c.args.w.now c.args.w.now c.feed.new.self (bytes ++ c.args.piece.now) parts text o o = λ p bytes parts text at s.
    let stands = c.in_err-feed.ensures.err p bytes parts text s in
    broke_longer refuses p c.args.w.now c.args.w.now c.feed.new.self bytes c.args.piece.now parts text o o
    (broke_before refuses p c.args.w.now c.args.w.now c.feed.new.self c.feed.new.self bytes parts text o stands calm refl (record {
      steps = [];
      inlet = subst (λ (l : List Step). InletStandsFor c.feed.new.self.inlet bytes l) (sym (append-nil (map step_of parts))) stands.inlet;
      left = (refl, refl);
    })) in
    on_err _ broke

pub serve-requires-clause-fed : goal.serve-requires-clause-fed
serve-requires-clause-fed g c = (c.requires.serving.bytes ++ c.args.piece.now, c.in_ok-feed.ensures.bytes c.requires.serving.bytes c.requires.serving.fed)

pub returns-clause-served : goal.returns-clause-served
returns-clause-served g c =
    let o : Outside = outside (g.K.Link.written c.args.link.now) (g.U.Upstream.exchanges c.args.up.now) (g.U.Upstream.faults c.args.up.now) in
    let o' : Outside = outside (g.K.Link.written c.serve.new.link) (g.U.Upstream.exchanges c.serve.new.up) (g.U.Upstream.faults c.serve.new.up) in
    ok_with c.serve.result (λ flow goes p bytes parts text at s.
    subst (λ (b : Bool). Served (g.U.Upstream.refuses c.args.up.now c.serve.new.up) p c.args.w.now c.serve.new.w c.serve.new.self (bytes ++ c.args.piece.now) b parts text o o' flow) (c.serve.ensures.over ∙ c.in_ok-feed.ensures.over)
    (goes p (bytes ++ c.args.piece.now) parts text at (c.in_ok-feed.ensures.fed p bytes parts text s)))
    c.serve.ensures.served

pub returns-clause-serving : goal.returns-clause-serving
returns-clause-serving g c = λ is. record {
  bytes = c.requires.serving.bytes ++ c.args.piece.now;
  fed = fed_on c.feed.new.self c.serve.new.self (c.requires.serving.bytes ++ c.args.piece.now) c.serve.ensures.inlet (c.in_ok-feed.ensures.bytes c.requires.serving.bytes c.requires.serving.fed);
  reading = c.serve.ensures.more is;
  unfinished = (c.serve.ensures.unfinished is _ (c.in_ok-feed.ensures.bytes c.requires.serving.bytes c.requires.serving.fed)).0;
}

pub returns-clause-broke : goal.returns-clause-broke
returns-clause-broke g c = on_err_weaker c.serve.result (λ broke p bytes parts text at s.
    broke p (bytes ++ c.args.piece.now) parts text at (c.in_ok-feed.ensures.fed p bytes parts text s)) c.serve.ensures.broke

pub returns-clause-short : goal.returns-clause-short
returns-clause-short g c = λ is bytes fed.
    let came = c.in_ok-feed.ensures.bytes bytes fed in
    (fed_on c.feed.new.self c.serve.new.self (bytes ++ c.args.piece.now) c.serve.ensures.inlet came, (c.serve.ensures.unfinished is (bytes ++ c.args.piece.now) came).1)
