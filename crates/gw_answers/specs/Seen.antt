-- How an action of the code stands for the plain one.
use Rattle.gw_answers.specs.declared.decision.Action.{Action}
use Rattle.gw_answers.specs.declared.decision.Action.TheVariants.{Reply, Forward}
use Rattle.gw_answers.specs.model.Decisions.{Action as Plain, replies, forwards}

abbrev pub seen_action : Action → Plain
seen_action (Reply r) = replies r.code r.location r.fault
seen_action (Forward f) = forwards f.to f.bytes f.edits
