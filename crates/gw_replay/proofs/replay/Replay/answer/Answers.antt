-- What a backend answers from now on.
use Rattle.std.proofs.Common.{rules, ◌≡◌, ◌+◌, ◌++◌, refl, replicate}
use Rattle.std.proofs.lemmas.Result.{on_ok_weaker}
use Rattle.gw_link.specs.declared.order.Order.TheVariants.{Answers}
use Rattle.gw_replay.proofs.Stepping.{does_so, filled_by}
use Rattle.gw_replay.proofs.replay.Replay.answer.Goals as goal

pub returns-clause-does : goal.returns-clause-does
returns-clause-does g c =
    let size : c.in_ok-size.size ≡ c.args.text.len + c.args.fill = search rules in
    let items : c.resize.new.self.items ≡ c.args.text.items ++ replicate c.args.fill 120
    = filled_by c.args.text.items c.resize.new.self.items c.args.text.len c.in_ok-size.size c.args.fill c.args.text.ok.0 size c.in_ok-resize.ensures.items in
    on_ok_weaker c.order.result (λ d. does_so c.args.self.now c.order.new.self (λ s s' text k o. (Answers c.args.socket c.resize.new.self, ((refl, items), o.0, o.1))) d) c.order.ensures.does
