-- What comes of a piece is written.
use Rattle.std.proofs.Common.{[], ◌≡◌, ◌∙◌, ◌<◌, ◌++◌, ℕ, List, length, map, set, drop, Ok, ap, refl, sym, subst, arith, string_bytes}
use Rattle.std.proofs.lemmas.List.{length-set}
use Rattle.std.specs.Vec.{with_item}
use Rattle.gw_answers.specs.model.ServedRows.{ServedRow}
use Rattle.gw_store.specs.declared.event.Entry.{Entry}
use Rattle.gw_worker.specs.model.Sessions.{rows_of}
use Rattle.gw_replay.specs.Lines.{written_text}
use Rattle.gw_replay.specs.Replays.{place_at}
use Rattle.gw_conns.proofs.Standing.{serving_of}
use Rattle.gw_conns.specs.Standing.{conn_of}
use Rattle.gw_replay.specs.States.{Halted, HasSeen, Unless, site_of}
use Rattle.gw_replay.proofs.Keeping.{keeps_served}
use Rattle.gw_replay.proofs.Serving.{Taken, backends_so, client_after, door_there, has_so, is_at, met_longer, met_so, paired_so, picks_there, printed_all, rows_before, rows_longer, rows_so, serves_so, state_after, text_after, worker_seen, worker_within, wrote_so}
use Rattle.gw_replay.proofs.Stepping.{err_so}
use Rattle.gw_replay.proofs.Stopping.{halted_by}
use Rattle.gw_store.proofs.Undoing.{there_set}
use Rattle.gw_replay.proofs.replay.Replay.serve.Goals as goal

pub take_published-requires-clause-door : goal.take_published-requires-clause-door
take_published-requires-clause-door g c =
    let k = c.requires in
    door_there c.args.self.now k.0 c.args.client.now k.1.0 c.index_mut-worker.result.now k.1.1.0 k.1.1.1 c.index_mut-worker.ensures.value

pub take_published-requires-clause-book : goal.take_published-requires-clause-book
take_published-requires-clause-book g c =
    let k = c.requires in
    (worker_seen c.args.self.now k.0 c.args.client.now k.1.0 c.index_mut-worker.result.now k.1.1.0 k.1.1.1 c.index_mut-worker.ensures.value).of.book_is

pub split_at-requires : goal.split_at-requires
split_at-requires g c =
    let s = c.requires.0 in
    let plain = c.requires.1.0 in
    let keeps = c.requires.1.1.0 in
    let client = c.requires.1.1.1 in
    let site = site_of c.args.self.now in
    let w = c.index_mut-worker.result.now in
    let seen = worker_seen c.args.self.now s c.args.client.now plain w keeps client c.index_mut-worker.ensures.value in
    let v : Taken site c.args.self.now.controller.book c.args.piece.now s plain w c.take_published.new.worker (conn_of c.take_published.new.client.conn) c.in_ok-flow.flow [] c.take_published.new.wrote.items
    c.args.self.now.backends c.take_published.new.backends = record {
      nothing = refl;
      told_so = keeps.backends;
      worker = picks_there c.args.self.now s c.args.client.now plain w keeps client c.index_mut-worker.ensures.value;
      seen = seen;
      most = omega (arith, c.in_ok-flow.ensures.seen, ap length keeps.published);
      fixed = c.take_published.ensures.fixed;
      of = c.take_published.ensures.book;
      served = (c.in_ok-flow.ensures.served (place_at site plain.door) plain.bytes plain.parts plain.text (is_at site plain.door s.published c.args.self.now.controller.book w seen) client.stands).served;
      serving = λ more. serving_of c.take_published.new.client.conn (c.in_ok-flow.ensures.ready (ap Ok more));
    } in
    omega (
      arith,
      rows_longer v c.as_slice-rows.result.now (c.as_slice-rows.ensures ∙ c.served.ensures ∙ rows_before site (length s.workers) c.args.client.now plain client),
      ap length (c.as_slice.ensures ∙ c.served-2.ensures),
    )

pub split_at-requires-2 : goal.split_at-requires-2
split_at-requires-2 g c =
    let s = c.requires.0 in
    let plain = c.requires.1.0 in
    let keeps = c.requires.1.1.0 in
    let client = c.requires.1.1.1 in
    let site = site_of c.args.self.now in
    let w = c.index_mut-worker.result.now in
    let seen = worker_seen c.args.self.now s c.args.client.now plain w keeps client c.index_mut-worker.ensures.value in
    let v : Taken site c.args.self.now.controller.book c.args.piece.now s plain w c.take_published.new.worker (conn_of c.take_published.new.client.conn) c.in_ok-flow.flow [] c.take_published.new.wrote.items
    c.args.self.now.backends c.take_published.new.backends = record {
      nothing = refl;
      told_so = keeps.backends;
      worker = picks_there c.args.self.now s c.args.client.now plain w keeps client c.index_mut-worker.ensures.value;
      seen = seen;
      most = omega (arith, c.in_ok-flow.ensures.seen, ap length keeps.published);
      fixed = c.take_published.ensures.fixed;
      of = c.take_published.ensures.book;
      served = (c.in_ok-flow.ensures.served (place_at site plain.door) plain.bytes plain.parts plain.text (is_at site plain.door s.published c.args.self.now.controller.book w seen) client.stands).served;
      serving = λ more. serving_of c.take_published.new.client.conn (c.in_ok-flow.ensures.ready (ap Ok more));
    } in
    omega (arith, met_longer v, ap length c.exchanges-exchanges.ensures, ap length c.exchanges.ensures)

pub returns-clause-served : goal.returns-clause-served
returns-clause-served g c = record {
  site = refl;
  did = λ s plain keeps client.
      let site = site_of c.args.self.now in
      let w = c.index_mut-worker.result.now in
      let seen = worker_seen c.args.self.now s c.args.client.now plain w keeps client c.index_mut-worker.ensures.value in
      let v : Taken site c.args.self.now.controller.book c.args.piece.now s plain w c.take_published.new.worker (conn_of c.take_published.new.client.conn) c.in_ok-flow.flow [] c.take_published.new.wrote.items
      c.args.self.now.backends c.take_published.new.backends = record {
        nothing = refl;
        told_so = keeps.backends;
        worker = picks_there c.args.self.now s c.args.client.now plain w keeps client c.index_mut-worker.ensures.value;
        seen = seen;
        most = omega (arith, c.in_ok-flow.ensures.seen, ap length keeps.published);
        fixed = c.take_published.ensures.fixed;
        of = c.take_published.ensures.book;
        served = (c.in_ok-flow.ensures.served (place_at site plain.door) plain.bytes plain.parts plain.text (is_at site plain.door s.published c.args.self.now.controller.book w seen) client.stands).served;
        serving = λ more. serving_of c.take_published.new.client.conn (c.in_ok-flow.ensures.ready (ap Ok more));
      } in
      let place = place_at site plain.door in
      let rows : c.split_at.result.1.now ≡ rows_of place v.served.took.more
      = c.split_at.ensures.back ∙ ap (drop (length c.as_slice-rows.result.now)) (c.as_slice.ensures ∙ c.served-2.ensures)
      ∙ rows_so v c.as_slice-rows.result.now (c.as_slice-rows.ensures ∙ c.served.ensures ∙ rows_before site (length s.workers) c.args.client.now plain client) in
      let met : c.split_at-2.result.1.now ≡ v.served.took.met
      = c.split_at-2.ensures.back ∙ ap (λ (n : ℕ). drop n c.exchanges.result.now) (ap length c.exchanges-exchanges.ensures)
      ∙ ap (drop (length c.args.self.now.backends.exchanges)) c.exchanges.ensures ∙ met_so v in
      record {
        state = state_after v;
        plain' = client_after v;
        text = text_after v c.args.said.name.now c.args.said.line;
        serves = serves_so v c.args.said.line c.args.said.name.now c.in_ok-flow.ensures.becomes c.in_ok-flow.ensures.starved;
        keeps = keeps_served c.args.self.now (record c.args.self.now {
          workers = with_item c.args.self.now.workers c.args.client.now.worker c.take_published.new.worker;
          backends = c.take_published.new.backends;
          statuses = c.push_statuses.new.statuses;
          text = c.push_end.new.text;
        }) s plain.worker c.take_published.new.worker (map (λ row. row.status) (rows_of place v.served.took.more)) keeps refl
            (backends_so v c.in_ok-flow.ensures.becomes c.in_ok-flow.ensures.starved)
            (ap (λ (n : ℕ). set c.args.self.now.workers.items n c.take_published.new.worker) client.worker)
            (subst (λ (list : List Entry). HasSeen list (site.doors, site.controller) c.args.self.now.controller.book c.take_published.new.worker) (sym keeps.published) (has_so v))
            (c.in_ok-push_statuses.ensures ∙ ap (λ (l : List ℕ). l ++ map (λ row. row.status) c.split_at.result.1.now) keeps.statuses
            ∙ ap (λ (r : List ServedRow). s.statuses ++ map (λ row. row.status) r) rows);
        printed = printed_all (string_bytes c.args.self.now.text) (string_bytes c.push_rows.new.text) (string_bytes c.push_written.new.text) (string_bytes c.push_end.new.text) _ _ _
            (c.in_ok-push_rows.ensures ∙ ap (λ (l : List ℕ). string_bytes c.args.self.now.text ++ l) (paired_so v c.args.said.line c.args.said.name.now c.split_at.result.1.now c.split_at-2.result.1.now rows met))
            (c.in_ok-push_written.ensures ∙ ap (λ (l : List ℕ). string_bytes c.push_rows.new.text ++ written_text c.args.said.name.now c.args.said.line l) (c.as_slice-2.ensures.value ∙ wrote_so v))
            c.in_ok-push_end.ensures;
        client = λ more. record {
          worker = c.take_published.ensures.worker ∙ client.worker;
          within = subst (λ (m : ℕ). m < length (state_after v).workers) (sym c.take_published.ensures.worker) (subst (λ (n : ℕ). c.args.client.now.worker < n) (sym (length-set s.workers plain.worker c.take_published.new.worker.books)) client.within);
          door = client.door;
          stands = (c.in_ok-flow.ensures.served place plain.bytes plain.parts plain.text (is_at site plain.door s.published c.args.self.now.controller.book w seen) client.stands).stands more;
          ready = c.in_ok-flow.ensures.ready (ap Ok more);
        };
      };
}

pub returns-in_err-flow-clause-stops : goal.returns-in_err-flow-clause-stops
returns-in_err-flow-clause-stops g c =
    let k = c.requires in
    let old = c.args.self.now in
    let n = c.args.client.now.worker in
    let new = record old { workers = with_item old.workers n c.take_published.new.worker; backends = c.take_published.new.backends } in
    err_so c.from_residual.result c.in_err-flow.field-0.0 (λ stop. Unless stop (Halted stop old new)) c.from_residual.ensures.1
    (halted_by _ old new n c.take_published.new.worker refl refl
    (there_set old.workers.items n c.take_published.new.worker (worker_within old k.0 c.args.client.now k.1.0 k.1.1.0 k.1.1.1)) c.in_err-flow.ensures.stops.0 c.in_err-flow.ensures.stops.1)
