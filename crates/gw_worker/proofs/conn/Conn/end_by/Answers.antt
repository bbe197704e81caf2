-- An end is one thing more, and the last.
use Rattle.std.proofs.Common.{refl, ◌++◌, ◌∷◌, [], map}
use Rattle.gw_frames.specs.declared.ended.Ended.TheVariants.{Closed, Truncated}
use Rattle.gw_frames.specs.model.Requests.{a_break, an_end}
use Rattle.gw_message_laws.proofs.Ends.{behind_break, behind_end}
use Rattle.gw_worker.proofs.Serving.{came_ended}
use Rattle.gw_worker.specs.model.Sessions.{a_close, a_cut, step_of}
use Rattle.gw_worker.proofs.conn.Conn.end_by.Goals as goal

pub returns-clause-close : goal.returns-clause-close
returns-clause-close c = λ p bytes parts text s.
    let last = behind_end 0 Closed (map step_of parts) s.unended in
    came_ended c.args.self.now _ p bytes parts text a_close last.0 c.unwrap_or-why.result c.args.other c.ended.result c.end.result s
    (c.ended.ensures bytes (map step_of parts ++ an_end ∷ []) s.inlet) c.unwrap_or-why.ensures c.end.ensures.after c.end.ensures.turn refl refl tt last.1

pub returns-clause-cut : goal.returns-clause-cut
returns-clause-cut c = λ p bytes parts text s.
    came_ended c.args.self.now _ p bytes parts text a_cut Truncated c.unwrap_or-why.result c.args.other c.ended.result c.end.result s
    (c.ended.ensures bytes (map step_of parts ++ a_break ∷ []) s.inlet) c.unwrap_or-why.ensures c.end.ensures.after c.end.ensures.turn refl refl tt
    (behind_break 0 Closed (map step_of parts) s.unended)
