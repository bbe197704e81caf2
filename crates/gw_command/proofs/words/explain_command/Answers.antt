-- The options that were added one after the other are those of the command.
use Rattle.std.proofs.Common.{◌∙◌, ap, codes}
use Rattle.std.proofs.lemmas.Result.{IfOk-weaker}
use Rattle.clap.specs.Simple.{App, with_rule}
use Rattle.gw_command.specs.Words.{door_rule, value_rule}
use Rattle.gw_command.proofs.words.explain_command.Goals as goal

pub returns : goal.returns
returns c = IfOk-weaker c.with_door.result _ _ (λ r is. is ∙ ap (λ (a : App). with_rule a door_rule) (c.in_ok-with_request.ensures ∙ ap (λ (a : App). with_rule a (value_rule (codes "request"))) (c.in_ok-with_at.ensures ∙ ap (λ (a : App). with_rule a (value_rule (codes "at"))) (c.in_ok-with_controller.ensures ∙ ap (λ (a : App). with_rule a (value_rule (codes "controller"))) c.new-command.ensures.app)))) c.with_door.ensures
