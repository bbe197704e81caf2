use Rattle.gw_replay_laws.proofs.Rising.{goes_rises}
use Rattle.gw_replay_laws.proofs.schedules.a_schedule_rises.Goals as goal

pub returns : goal.returns
returns c = goes_rises
