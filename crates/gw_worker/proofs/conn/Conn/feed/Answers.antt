-- The inlet takes the bytes.
use Rattle.std.proofs.Common.{◌≡◌, ◌++◌, List, ℕ, map, sym, ◌∙◌, ap, subst, append-nil, rules}
use Rattle.std.proofs.lemmas.Result.{on_ok_weaker, on_err_weaker}
use Rattle.gw_exchange.proofs.Receiving.{empty_of}
use Rattle.gw_frames.specs.Inlets.{StandsFor as InletStandsFor}
use Rattle.gw_worker.proofs.Serving.{stands_fed}
use Rattle.gw_worker.specs.model.Sessions.{step_of}
use Rattle.gw_worker.proofs.conn.Conn.feed.Goals as goal

pub returns-then-is_empty-clause-fed : goal.returns-then-is_empty-clause-fed
returns-then-is_empty-clause-fed c = λ p bytes parts text s.
    let same : bytes ++ c.args.piece.now ≡ bytes = ap (λ (b : List ℕ). bytes ++ b) (empty_of c.args.piece.now (search rules)) ∙ append-nil bytes in
    stands_fed c.args.self.now c.finish.new.self p bytes (bytes ++ c.args.piece.now) parts text
    (subst (λ (b : List ℕ). InletStandsFor c.finish.new.self b (map step_of parts)) (sym same) (c.finish.ensures.stands bytes (map step_of parts) s.inlet)) s

pub returns-then-is_empty-clause-bytes : goal.returns-then-is_empty-clause-bytes
returns-then-is_empty-clause-bytes c = λ bytes fed.
    let same : bytes ++ c.args.piece.now ≡ bytes = ap (λ (b : List ℕ). bytes ++ b) (empty_of c.args.piece.now (search rules)) ∙ append-nil bytes in
    (fed.0, subst (λ (b : List ℕ). InletStandsFor c.finish.new.self b fed.0) (sym same) (c.finish.ensures.stands bytes fed.0 fed.1))

pub returns-clause-fed : goal.returns-clause-fed
returns-clause-fed c = on_ok_weaker c.feed.result (λ feeds p bytes parts text s.
    stands_fed c.args.self.now c.feed.new.self p bytes (bytes ++ c.args.piece.now) parts text (feeds bytes (map step_of parts) s.inlet) s) c.feed.ensures.fed

pub returns-clause-bytes : goal.returns-clause-bytes
returns-clause-bytes c = on_ok_weaker c.feed.result (λ feeds bytes fed. (fed.0, feeds bytes fed.0 fed.1)) c.feed.ensures.fed

pub returns-clause-err : goal.returns-clause-err
returns-clause-err c = on_err_weaker c.feed.result (λ same p bytes parts text s.
    stands_fed c.args.self.now c.feed.new.self p bytes bytes parts text (same bytes (map step_of parts) s.inlet) s) c.feed.ensures.err
