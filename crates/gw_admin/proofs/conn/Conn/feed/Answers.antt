-- The inlet takes the bytes.
use Rattle.std.proofs.Common.{◌≡◌, ◌++◌, List, ℕ, map, sym, ◌∙◌, ap, subst, append-nil, refl, rules}
use Rattle.std.proofs.lemmas.Result.{on_ok_weaker, on_err_weaker}
use Rattle.gw_frames.specs.Inlets.{StandsFor as InletStandsFor}
use Rattle.gw_admin.specs.model.Sessions.{step_of}
use Rattle.gw_admin.proofs.Turning.{no_bytes, reading_on}
use Rattle.gw_admin.proofs.conn.Conn.feed.Goals as goal

pub returns-then-is_empty-clause-fed : goal.returns-then-is_empty-clause-fed
returns-then-is_empty-clause-fed c = λ bytes parts r.
    let same : bytes ++ c.args.piece.now ≡ bytes = ap (λ (b : List ℕ). bytes ++ b) (no_bytes c.args.piece.now (search rules)) ∙ append-nil bytes in
    reading_on c.args.self.now _ bytes (bytes ++ c.args.piece.now) parts
    (subst (λ (b : List ℕ). InletStandsFor c.finish.new.self b (map step_of parts)) (sym same) (c.finish.ensures.stands bytes (map step_of parts) r.stands.inlet)) refl r

pub returns-clause-fed : goal.returns-clause-fed
returns-clause-fed c = on_ok_weaker c.feed.result (λ feeds bytes parts r.
    reading_on c.args.self.now _ bytes (bytes ++ c.args.piece.now) parts (feeds bytes (map step_of parts) r.stands.inlet) refl r) c.feed.ensures.fed

pub returns-clause-err : goal.returns-clause-err
returns-clause-err c = on_err_weaker c.feed.result (λ same bytes parts r.
    reading_on c.args.self.now _ bytes bytes parts (same bytes (map step_of parts) r.stands.inlet) refl r) c.feed.ensures.err
