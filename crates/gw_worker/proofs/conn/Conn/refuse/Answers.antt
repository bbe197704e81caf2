-- A refusal is one thing more, and the last.
use Rattle.std.proofs.Common.{refl, sym, ◌∙◌, append-nil, map}
use Rattle.gw_frames.specs.declared.ended.Ended.TheVariants.{Closed, Refused}
use Rattle.gw_message_laws.proofs.Ends.{behind_refusal}
use Rattle.gw_worker.proofs.Serving.{came_refused}
use Rattle.gw_worker.specs.model.Sessions.{a_refused, step_of}
use Rattle.gw_worker.proofs.conn.Conn.refuse.Goals as goal

pub returns-clause-came : goal.returns-clause-came
returns-clause-came c = λ p bytes parts text s.
    came_refused c.args.self.now _ p bytes parts text (a_refused c.args.code) c.in_ok-text.text (Refused c.args.code) s refl refl
    (c.in_ok-text.ensures ∙ sym (append-nil _)) tt (behind_refusal 0 Closed (map step_of parts) c.args.code s.unended)
