use Rattle.gw_replay_laws.proofs.Rising.{beginning_sound}
use Rattle.gw_replay_laws.proofs.schedules.a_schedule_begins_soundly.Goals as goal

pub returns : goal.returns
returns c = beginning_sound
