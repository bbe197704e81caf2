-- The options that were added one after the other are those of the command.
use Rattle.std.proofs.Common.{◌∙◌, ap, codes}
use Rattle.std.proofs.lemmas.Result.{IfOk-weaker}
use Rattle.clap.specs.Simple.{App, with_rule}
use Rattle.gw_command.specs.Words.{flag_rule, value_rule}
use Rattle.gw_command.proofs.words.generate_command.Goals as goal

pub returns : goal.returns
returns c = IfOk-weaker c.with_flag.result _ _ (λ r is. is ∙ ap (λ (a : App). with_rule a (flag_rule (codes "run"))) (c.in_ok-with_requests.ensures ∙ ap (λ (a : App). with_rule a (value_rule (codes "requests"))) (c.in_ok-with_routes.ensures ∙ ap (λ (a : App). with_rule a (value_rule (codes "routes"))) (c.in_ok-with_seed.ensures ∙ ap (λ (a : App). with_rule a (value_rule (codes "seed"))) c.new-command.ensures.app)))) c.with_flag.ensures
