-- All lines and the last one, or the lines before the one at which the script is given up.
use Rattle.std.proofs.Common.{◌∙◌, List, [], ℕ, length, refl, string_bytes, subst, sym}
use Rattle.gw_replay.specs.States.{IsGivenUp}
use Rattle.gw_replay.specs.declared.ending.Ending.{Ending}
use Rattle.gw_replay.proofs.Finishing.{front_written, whole_written}
use Rattle.gw_replay.proofs.output.replay_output.Goals as goal

pub returns-in_ok-ending-in-Ok-lines-clause-replayed : goal.returns-in_ok-ending-in-Ok-lines-clause-replayed
returns-in_ok-ending-in-Ok-lines-clause-replayed g c =
    whole_written c.args.doors c.args.controller c.args.workers c.args.input.now _ c.in-Ok.replay c.lines.new.self [] c.ended.result.text c.in-Ok.ensures.keeps c.in-Ok.ensures.site c.in-Ok.ensures.text
    _ c.ended.result.ending c.in-Ok-lines.ensures.runs (λ s k. c.ended.ensures.text ∙ c.in_ok-ending-in-Ok-lines.ensures.text s k) (c.ended.ensures.ending ∙ c.in_ok-ending-in-Ok-lines.ensures.ending)

pub returns-in_ok-ending-in-Err-clause-replayed : goal.returns-in_ok-ending-in-Err-clause-replayed
returns-in_ok-ending-in-Err-clause-replayed g c =
    front_written c.args.doors c.args.controller c.args.workers c.args.input.now _ c.in-Ok.replay c.lines.new.self (string_bytes c.lines.new.self.text) c.ended-in-Err.result.text c.in-Ok.ensures.keeps c.in-Ok.ensures.site c.in-Ok.ensures.text
    c.in-Err.stop c.ended-in-Err.result.ending refl c.in-Err.ensures.stops c.in_ok-ending-in-Err.ensures.named
    (subst (λ (e : Ending). IsGivenUp e (string_bytes c.lines.new.self.text) (length c.lines.new.self.controller.published) c.ended-in-Err.result.text) (sym c.ended-in-Err.ensures.ending)
    (subst (λ (t : List ℕ). IsGivenUp c.in_ok-ending-in-Err.ending (string_bytes c.lines.new.self.text) (length c.lines.new.self.controller.published) t) (sym c.ended-in-Err.ensures.text) c.in_ok-ending-in-Err.ensures.given_up))
