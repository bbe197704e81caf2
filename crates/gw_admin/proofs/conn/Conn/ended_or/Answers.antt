-- The bytes tell the end.
use Rattle.std.proofs.Common.{◌∙◌, ◌++◌, ◌∷◌, [], Option, Some, ap, map, sym, unwrap_or}
use Rattle.gw_frames.specs.declared.ended.Ended.{Ended}
use Rattle.gw_frames.specs.declared.ended.Ended.TheVariants.{Closed}
use Rattle.gw_frames.specs.model.Requests.{an_end}
use Rattle.gw_message_laws.proofs.Ends.{behind_end}
use Rattle.gw_admin.specs.model.Sessions.{step_of}
use Rattle.gw_admin.proofs.conn.Conn.ended_or.Goals as goal

pub returns : goal.returns
returns c = λ bytes parts s.
    let last = behind_end 0 Closed (map step_of parts) s.unended in
    last.1 ∙ ap (λ (e : Ended). Some e) (sym (c.unwrap_or.ensures ∙ ap (λ (e : Option Ended). unwrap_or e c.args.other) (c.ended.ensures bytes (map step_of parts ++ an_end ∷ []) s.inlet ∙ last.1)))
