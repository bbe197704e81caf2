-- The bytes are fed, and all that is whole is answered.
use Rattle.std.proofs.Common.{◌++◌, List, [], map, refl, arith, subst, sym, append-nil}
use Rattle.std.proofs.lemmas.Result.{IfOk-weaker, on_err_weaker}
use Rattle.gw_frames.specs.Inlets.{StandsFor as InletStandsFor}
use Rattle.gw_frames.specs.model.Requests.{Step}
use Rattle.gw_lists.proofs.Beginnings.{begins_with-self}
use Rattle.gw_admin.specs.Answering.{place_of}
use Rattle.gw_admin.specs.model.Sessions.{step_of}
use Rattle.gw_admin.proofs.Causes.{on_err}
use Rattle.gw_admin.proofs.Turning.{broke_before, never}
use Rattle.gw_link.proofs.KeptLemmas.{keeps_self}
use Rattle.gw_admin.proofs.conn.Conn.take.Goals as goal

pub turns-requires-clause-serving : goal.turns-requires-clause-serving
turns-requires-clause-serving g c =
    let s = c.requires.serving in
    record {
      bytes = s.bytes ++ c.args.piece.now;
      parts = s.parts;
      reading = c.in_ok-feed.ensures.fed s.bytes s.parts s.reading;
      few = rw (c.in_ok-feed.ensures.left, c.feed.ensures.asks) s.few;
    }

pub returns-in_err-feed-clause-broke : goal.returns-in_err-feed-clause-broke
returns-in_err-feed-clause-broke g c = on_err c.from_residual.result (λ bytes parts r.
    let p = place_of g.N.HubName.doors g.N.HubName.controller in
    let kept = c.in_err-feed.ensures.err bytes parts r in
    broke_before p c.feed.new.self (bytes ++ c.args.piece.now) bytes parts [] _ _ (c.args.piece.now, refl) (omega arith)
    (subst (λ (l : List Step). InletStandsFor c.feed.new.self.inlet bytes l) (sym (append-nil (map step_of parts))) kept.stands.inlet)
    (begins_with-self _) (never _) (keeps_self _))

pub returns-clause-turned : goal.returns-clause-turned
returns-clause-turned g c = IfOk-weaker c.turns.result _ _ (λ flow turned bytes parts r.
    rw (← c.in_ok-feed.ensures.over, ← c.turns.ensures.over) (turned (bytes ++ c.args.piece.now) parts (c.in_ok-feed.ensures.fed bytes parts r))) c.turns.ensures.turned

pub returns-clause-broke : goal.returns-clause-broke
returns-clause-broke g c = on_err_weaker c.turns.result (λ broke bytes parts r.
    broke (bytes ++ c.args.piece.now) parts (c.in_ok-feed.ensures.fed bytes parts r)) c.turns.ensures.broke
