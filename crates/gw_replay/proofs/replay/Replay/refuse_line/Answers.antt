-- The line of a refusal of a line that is no step.
use Rattle.std.proofs.Common.{ℕ, List, OnOk, Option, subst}
use Rattle.gw_script.specs.Refusals.{step_refusal_path}
use Rattle.gw_replay.specs.Replays.{IsRefused}
use Rattle.gw_replay.specs.States.{Does}
use Rattle.gw_replay.proofs.replay.Replay.refuse_line.Goals as goal

pub returns-clause-does : goal.returns-clause-does
returns-clause-does g c =
    subst (λ (n : ℕ). OnOk c.refuse.result (Does (λ s s' text. IsRefused c.args.number n (step_refusal_path c.args.refusal) s s' text) c.args.self.now c.refuse.new.self)) c.number.ensures
    (subst (λ (path : Option (List ℕ)). OnOk c.refuse.result (Does (λ s s' text. IsRefused c.args.number c.number.result path s s' text) c.args.self.now c.refuse.new.self)) c.path.ensures c.refuse.ensures.does)
