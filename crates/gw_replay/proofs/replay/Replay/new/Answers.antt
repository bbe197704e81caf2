-- Before the first line.
use Rattle.std.proofs.Common.{◌∙◌, List, [], length, replicate, ap, refl, subst, sym, arith, map}
use Rattle.std.specs.BTreeMap.{get_by_text}
use Rattle.gw_hub.specs.Control.{Control}
use Rattle.gw_link.specs.Upstreams.{UpstreamState}
use Rattle.gw_snap.specs.Lists.{copies, fresh}
use Rattle.gw_worker.specs.model.Workers.{Worker}
use Rattle.gw_replay.specs.Replays.{no_picks}
use Rattle.gw_replay.specs.States.{AreBackends, HaveLearnt, HaveSeen, picks_of, worker_over}
use Rattle.gw_replay.proofs.Keeping.{no_client, none_there, picked_nothing, seen_nothing}
use Rattle.gw_replay.proofs.replay.Replay.new.Goals as goal

pub returns-clause-keeps : goal.returns-clause-keeps
returns-clause-keeps g c =
    let controller = c.in_ok-controller.controller in
    let is = c.in_ok-controller.ensures.controller in
    let items = c.in_ok-workers.ensures ∙ ap (map worker_over) c.in_ok-controller.ensures.passes in
    record {
      changes = ap (λ (x : Control). x.changes) is;
      published = ap (λ (x : Control). x.published) is;
      learnt = subst (λ (ws : List Worker). HaveLearnt controller ws) (sym items)
          (subst (λ (x : Control). HaveSeen x.published (x.doors, x.controller) controller.book (map worker_over (copies c.args.workers (fresh (c.args.doors, c.args.controller) controller.book)))) (sym is)
          (seen_nothing (c.args.doors, c.args.controller) controller.book c.args.workers));
      workers = ap picks_of items ∙ picked_nothing _ c.args.workers;
      clients = λ name. no_client (record { doors = controller.doors; controller = controller.controller })
          (length (replicate c.args.workers no_picks)) (get_by_text c.new.result name) (none_there c.new.result name c.new.ensures.empty);
      backends = subst (λ (up : UpstreamState). AreBackends up []) (sym c.new-3.ensures) (record {
        orders_are = refl;
        some = omega arith;
        unlisted = c.new-2.ensures.items;
        ample = refl;
      });
      statuses = c.new-4.ensures.items;
      refused = refl;
      skipped = refl;
    }
