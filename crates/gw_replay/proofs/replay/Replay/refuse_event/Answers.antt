-- The line of a refusal of an event.
use Rattle.std.proofs.Common.{rules, ◌≡◌, ℕ, List, OnOk, Option, option_map, subst}
use Rattle.gw_json.specs.Refusals.{refusal_path}
use Rattle.gw_replay.specs.Replays.{IsRefused}
use Rattle.gw_replay.specs.States.{Does}
use Rattle.gw_replay.proofs.replay.Replay.refuse_event.Goals as goal

pub returns-clause-does : goal.returns-clause-does
returns-clause-does g c = λ named.
    let path : option_map (λ p. p.now) c.map.result ≡ refusal_path c.args.refusal.now = search rules in
    subst (λ (n : ℕ). OnOk c.refuse.result (Does (λ s s' text. IsRefused c.args.number n (refusal_path c.args.refusal.now) s s' text) c.args.self.now c.refuse.new.self)) c.number.ensures
    (subst (λ (path : Option (List ℕ)). OnOk c.refuse.result (Does (λ s s' text. IsRefused c.args.number c.number.result path s s' text) c.args.self.now c.refuse.new.self)) path c.refuse.ensures.does)
