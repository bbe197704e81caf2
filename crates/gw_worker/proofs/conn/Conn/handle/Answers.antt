-- The request is decided by what the pass has seen.
use Rattle.std.proofs.Common.{refl, sym, ◌≡◌}
use Rattle.gw_answers.proofs.Left.{on_err}
use Rattle.gw_worker.proofs.Deciding.{left_behind}
use Rattle.gw_worker.proofs.Serving.{continues_by}
use Rattle.gw_worker.specs.Workers.{IsAt, IsLeftBy, handled_by}
use Rattle.gw_worker.specs.model.Sessions.{Place}
use Rattle.gw_worker.proofs.conn.Conn.handle.Goals as goal

pub returns-in_err-act-clause-err : goal.returns-in_err-act-clause-err
returns-in_err-act-clause-err c =
    let left : (p : Place) → IsAt c.args.w.now p → p.door ≡ c.args.self.now.door → IsLeftBy p c.args.w.now c.decision.new.self c.args.request.now = λ p at door.
    left_behind p c.args.w.now c.decision.new.self c.args.request.now (c.in_ok-front.ensures.decides p at door) in
    on_err _ left

pub returns-clause-goes : goal.returns-clause-goes
returns-clause-goes c = λ p bytes parts text at s.
    let h = handled_by c.args.w.now c.decision.new.self in
    continues_by p c.args.w.now c.decision.new.self c.act.new.self bytes parts text c.args.request.now h _
    (c.in_ok-act.ensures.came p bytes parts c.args.request.now h text s (record {
      decision = c.in_ok-front.ensures.decision p at (sym s.door);
      front_is = c.in_ok-front.ensures.front;
      head_is = c.is_head.ensures;
      last_is = c.is_last-last.ensures p parts text s.served;
      unanswered = refl;
    }))
    (c.in_ok-front.ensures.decides p at (sym s.door)) refl
