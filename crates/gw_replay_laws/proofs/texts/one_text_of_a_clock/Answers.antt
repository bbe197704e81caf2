use Rattle.gw_replay_laws.proofs.Runs.{told_unique}
use Rattle.gw_replay_laws.proofs.texts.one_text_of_a_clock.Goals as goal

pub returns : goal.returns
returns c = told_unique
