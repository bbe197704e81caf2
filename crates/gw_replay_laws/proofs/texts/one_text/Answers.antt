use Rattle.gw_replay_laws.proofs.Runs.{text_unique}
use Rattle.gw_replay_laws.proofs.texts.one_text.Goals as goal

pub returns : goal.returns
returns c = text_unique
