-- The answer 100 is one thing more.
use Rattle.std.proofs.Common.{refl, sym, ◌∙◌, append-nil, map}
use Rattle.gw_frames.specs.declared.ended.Ended.TheVariants.{Closed}
use Rattle.gw_message_laws.proofs.Ends.{behind_continue}
use Rattle.gw_worker.proofs.Serving.{came_on}
use Rattle.gw_worker.specs.model.Sessions.{a_wait, step_of}
use Rattle.gw_worker.proofs.conn.Conn.announce.Goals as goal

pub returns-clause-came : goal.returns-clause-came
returns-clause-came c = λ p bytes parts text s.
    came_on c.args.self.now c.args.self.now p bytes parts text a_wait c.in_ok-from_bytes.field-0 s refl refl c.requires.reading (sym (append-nil _))
    (c.in_ok-from_bytes.ensures ∙ sym (append-nil _)) tt (behind_continue 0 Closed (map step_of parts) s.unended)
