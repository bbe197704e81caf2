use Rattle.gw_replay_laws.proofs.Scheduling.{script_scheduled}
use Rattle.gw_replay_laws.proofs.schedules.a_script_is_a_schedule.Goals as goal

pub returns : goal.returns
returns c = script_scheduled
