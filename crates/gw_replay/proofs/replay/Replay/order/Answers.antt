-- One thing more is said of backends.
use Rattle.std.proofs.Common.{[], refl, sym, append-nil, string_bytes}
use Rattle.std.proofs.lemmas.Result.{on_ok_weaker}
use Rattle.gw_replay.specs.Replays.{with_order}
use Rattle.gw_replay.proofs.Keeping.{keeps_ordered}
use Rattle.gw_replay.proofs.replay.Replay.order.Goals as goal

pub returns-clause-does : goal.returns-clause-does
returns-clause-does g c = on_ok_weaker c.order.result (λ said. record {
  site = refl;
  did = λ s k. record {
    state = with_order s c.args.order;
    text = [];
    does_so = (refl, refl);
    keeps = keeps_ordered c.args.self.now (record c.args.self.now { backends = c.order.new.self }) s c.args.order k refl said;
    printed = sym (append-nil (string_bytes c.args.self.now.text));
  };
}) c.order.ensures.ok
