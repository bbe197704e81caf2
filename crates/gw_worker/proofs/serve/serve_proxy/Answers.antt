-- A new connection, served to its end.
use Rattle.std.proofs.Common.{List, [], refl, sym, subst}
use Rattle.gw_answers.specs.model.ServedRows.{ServedRow}
use Rattle.gw_worker.proofs.Linking.{has_broken, has_served}
use Rattle.gw_worker.specs.Flows.{outside}
use Rattle.gw_worker.specs.Links.{HasBroken, HasServed}
use Rattle.gw_worker.proofs.serve.serve_proxy.Goals as goal

pub serve-requires-clause-serving : goal.serve-requires-clause-serving
serve-requires-clause-serving g c = record {
  bytes = [];
  fed = ([], (c.new-conn.ensures.stands (record { doors = []; controller = []; door = c.args.door }) refl).inlet);
  reading = c.new-conn.ensures.reading;
  unfinished = c.new-conn.ensures.unfinished;
}

pub returns-in-Ok-clause-served : goal.returns-in-Ok-clause-served
returns-in-Ok-clause-served g c = λ p at door.
    subst (λ (rows : List ServedRow). HasServed (g.U.Upstream.refuses c.args.up.now c.serve.new.up) p c.args.w.now c.serve.new.w rows c.in-Ok.ended (g.K.Link.left c.args.link.now) (g.K.Link.left c.serve.new.link)
    (outside (g.K.Link.written c.args.link.now) (g.U.Upstream.exchanges c.args.up.now) (g.U.Upstream.faults c.args.up.now))
    (outside (g.K.Link.written c.serve.new.link) (g.U.Upstream.exchanges c.serve.new.up) (g.U.Upstream.faults c.serve.new.up))) (sym c.rows.ensures)
    (has_served (g.U.Upstream.refuses c.args.up.now c.serve.new.up) p c.args.w.now c.serve.new.w c.serve.new.conn c.in-Ok.ended (g.K.Link.left c.args.link.now) (g.K.Link.left c.serve.new.link)
    (outside (g.K.Link.written c.args.link.now) (g.U.Upstream.exchanges c.args.up.now) (g.U.Upstream.faults c.args.up.now))
    (outside (g.K.Link.written c.serve.new.link) (g.U.Upstream.exchanges c.serve.new.up) (g.U.Upstream.faults c.serve.new.up))
    (c.in-Ok.ensures.ran p [] [] [] at (c.new-conn.ensures.stands p door)))

pub returns-in-Err-clause-broken : goal.returns-in-Err-clause-broken
returns-in-Err-clause-broken g c = λ p at door.
    subst (λ (rows : List ServedRow). HasBroken (g.U.Upstream.refuses c.args.up.now c.serve.new.up) p c.args.w.now c.serve.new.w rows (g.K.Link.left c.args.link.now) (g.K.Link.left c.serve.new.link)
    (outside (g.K.Link.written c.args.link.now) (g.U.Upstream.exchanges c.args.up.now) (g.U.Upstream.faults c.args.up.now))
    (outside (g.K.Link.written c.serve.new.link) (g.U.Upstream.exchanges c.serve.new.up) (g.U.Upstream.faults c.serve.new.up))) (sym c.rows-in-Err.ensures)
    (has_broken (g.U.Upstream.refuses c.args.up.now c.serve.new.up) p c.args.w.now c.serve.new.w c.serve.new.conn (g.K.Link.left c.args.link.now) (g.K.Link.left c.serve.new.link)
    (outside (g.K.Link.written c.args.link.now) (g.U.Upstream.exchanges c.args.up.now) (g.U.Upstream.faults c.args.up.now))
    (outside (g.K.Link.written c.serve.new.link) (g.U.Upstream.exchanges c.serve.new.up) (g.U.Upstream.faults c.serve.new.up))
    (c.in-Err.ensures.stopped p [] [] [] at (c.new-conn.ensures.stands p door)))
