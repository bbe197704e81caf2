-- A connection begins.
use Rattle.std.proofs.Common.{◌≡◌, ◌∙◌, arith, [], length, Option, Some, None, ap, append-nil, bytes_eq, refl, string_bytes, sym, subst}
use Rattle.std.proofs.lemmas.List.{length-map}
use Rattle.std.proofs.lemmas.Result.{on_ok_weaker}
use Rattle.std.specs.BTreeMap.{get_by_text}
use Rattle.std.specs.Map.{update}
use Rattle.gw_worker.specs.model.Workers.{Worker}
use Rattle.gw_replay.specs.Replays.{Client as Plain, Begins, new_client, place_at}
use Rattle.gw_replay.specs.States.{IsClient, Matches, site_of}
use Rattle.gw_replay.specs.declared.replay.Client.{Client}
use Rattle.gw_replay.specs.declared.replay.Replay.{Replay}
use Rattle.gw_replay.proofs.Keeping.{keeps_clients, matches_put}
use Rattle.gw_replay.proofs.Stepping.{no_step, none_matched, not_some, there_some}
use Rattle.gw_replay.proofs.replay.Replay.open.Goals as goal

pub returns-clause-does : goal.returns-clause-does
returns-clause-does g c = on_ok_weaker c.keep.result (λ kept. record {
  site = ap site_of c.keep.ensures.rest;
  did = λ s k.
      let old = c.args.self.now in
      let name = c.args.name.now in
      let site = site_of old in
      let plain = new_client c.args.worker c.args.door in
      let client : IsClient site (length s.workers) (record { conn = c.new-conn.result; worker = c.args.worker }) plain = record {
        worker = refl;
        within = omega (arith, c.requires.worker, ap length k.workers, length-map old.workers.items (λ (w : Worker). w.books));
        door = c.requires.door;
        stands = c.new-conn.ensures.stands (place_at site c.args.door) refl;
        ready = c.new-conn.ensures.ready;
      } in
      let nobody : get_by_text old.clients name ≡ None = not_some (get_by_text old.clients name) (sym c.contains_key.ensures ∙ c.if-contains_key.false) in
      let none : s.clients name ≡ None = none_matched site (length s.workers) (get_by_text old.clients name) (s.clients name) (k.clients name) nobody in
      let clients = update bytes_eq s.clients name (Some plain) in
      record {
        state = record s { clients = clients };
        text = [];
        does_so = subst (λ (o : Option Plain). Begins c.args.number name c.args.worker c.args.door o s (record s { clients = clients }) []) (sym none) (refl, refl);
        keeps = keeps_clients old c.keep.new.self s clients k c.keep.ensures.rest (λ n.
            subst (λ (o : Option Client). Matches site (length s.workers) o (clients n)) (sym (kept n))
            (matches_put site (length s.workers) name (get_by_text old.clients) s.clients (Some (record { conn = c.new-conn.result; worker = c.args.worker })) (Some plain) k.clients client n));
        printed = ap (λ (r : Replay _). string_bytes r.text) c.keep.ensures.rest ∙ sym (append-nil (string_bytes old.text));
      };
}) c.keep.ensures.kept

pub returns-then-contains_key-clause-does : goal.returns-then-contains_key-clause-does
returns-then-contains_key-clause-does g c =
    on_ok_weaker c.refuse_line.result (λ d. no_step c.args.self.now c.refuse_line.new.self c.args.number c.args.name.now c.args.worker c.args.door
    (λ s k. there_some (site_of c.args.self.now) (length s.workers) (get_by_text c.args.self.now.clients c.args.name.now) (s.clients c.args.name.now) (k.clients c.args.name.now)
    (sym c.contains_key.ensures ∙ c.if-contains_key.true)) d) c.refuse_line.ensures.does
