-- The client of a name sends a piece.
use Rattle.std.proofs.Common.{rules, ◌≡◌, length, None, Option, bytes_eq, refl, subst, sym}
use Rattle.std.proofs.lemmas.Map.Text.{btree_map_updates_text}
use Rattle.std.specs.BTreeMap.{get_by_text}
use Rattle.std.specs.Map.{update}
use Rattle.gw_replay.specs.States.{HaltsAt, IsOpen, Keeps, Matches, site_of}
use Rattle.gw_replay.proofs.Stepping.{does_behind, err_so, nobody, none_matched, nothing_taken, some_matched, taken_away}
use Rattle.gw_replay.specs.Replays.{State}
use Rattle.gw_replay.specs.declared.replay.Client.{Client}
use Rattle.gw_replay.proofs.Keeping.{keeps_clients}
use Rattle.gw_replay.proofs.Sending.{sent_ended, sent_more}
use Rattle.gw_replay.proofs.Stopping.{halts_open}
use Rattle.gw_replay.proofs.replay.Replay.send.Goals as goal

pub serve-requires : goal.serve-requires
serve-requires g c =
    let s = c.requires.kept.0 in
    let k = c.requires.kept.1 in
    let there = some_matched (site_of c.args.self.now) (length s.workers) (get_by_text c.args.self.now.clients c.args.name.now) (s.clients c.args.name.now) (k.clients c.args.name.now) c.in-Some.client (sym c.in-Some.ensures.value) in (
      record s { clients = update bytes_eq s.clients c.args.name.now None },
      (
        there.0,
        (
          taken_away c.args.self.now (record c.args.self.now { clients = c.remove.new.self }) s c.args.name.now k refl
              (λ n. btree_map_updates_text c.args.name.now c.args.self.now.clients c.remove.new.self None c.remove.ensures.updates n),
          there.1.1,
        ),
      ),
    )

pub returns-in_ok-keep-in-More-clause-does : goal.returns-in_ok-keep-in-More-clause-does
returns-in_ok-keep-in-More-clause-does g c =
    sent_more c.args.self.now (record c.args.self.now { clients = c.remove.new.self }) c.serve.new.self c.keep.new.self c.args.number c.args.name.now c.args.piece.now c.in-Some.client c.serve.new.client
    refl (λ n. btree_map_updates_text c.args.name.now c.args.self.now.clients c.remove.new.self None c.remove.ensures.updates n)
    (sym c.in-Some.ensures.value) (rw c.in-More.is at c.in_ok-serve.ensures.served) c.keep.ensures.rest c.in_ok-keep-in-More.ensures.kept

pub returns-in-Ended-clause-does : goal.returns-in-Ended-clause-does
returns-in-Ended-clause-does g c =
    sent_ended c.args.self.now (record c.args.self.now { clients = c.remove.new.self }) c.serve.new.self c.args.number c.args.name.now c.args.piece.now c.in-Some.client c.serve.new.client c.in-Ended.field-0
    refl (λ n. btree_map_updates_text c.args.name.now c.args.self.now.clients c.remove.new.self None c.remove.ensures.updates n)
    (sym c.in-Some.ensures.value) (rw c.in-Ended.is at c.in_ok-serve.ensures.served)

pub returns-in_err-serve-clause-stops : goal.returns-in_err-serve-clause-stops
returns-in_err-serve-clause-stops g c =
    err_so c.from_residual-in_err-serve.result c.in_err-serve.field-0.0 (λ stop. HaltsAt stop (IsOpen c.args.name.now) c.args.self.now c.serve.new.self) c.from_residual-in_err-serve.ensures.1
    (halts_open _ (IsOpen c.args.name.now) c.args.self.now (record c.args.self.now { clients = c.remove.new.self }) c.serve.new.self refl refl
    (λ s k. let there = some_matched (site_of c.args.self.now) (length s.workers) (get_by_text c.args.self.now.clients c.args.name.now) (s.clients c.args.name.now) (k.clients c.args.name.now) c.in-Some.client (sym c.in-Some.ensures.value) in (there.0, there.1.0))
    c.in_err-serve.ensures.stops)

pub returns-in_default-clause-does : goal.returns-in_default-clause-does
returns-in_default-clause-does g c =
    let old = c.args.self.now in
    let name = c.args.name.now in
    let mid = record old { clients = c.remove.new.self } in
    let nobody_there : get_by_text old.clients name ≡ None = search rules in
    let none : (s : State) → Keeps old s → s.clients name ≡ None
    = λ s k. none_matched (site_of old) (length s.workers) (get_by_text old.clients name) (s.clients name) (k.clients name) nobody_there in
    nobody old c.refuse_line.new.self (site_of old) c.args.number name c.args.piece.now none
    (does_behind old mid c.refuse_line.new.self refl refl (λ s k. keeps_clients old mid s s.clients k refl (λ n.
    subst (λ (o : Option Client). Matches (site_of old) (length s.workers) o (s.clients n)) (sym (btree_map_updates_text name old.clients c.remove.new.self None c.remove.ensures.updates n))
    (nothing_taken (site_of old) (length s.workers) name n (get_by_text old.clients) s.clients (none s k) (k.clients n)))) c.in_ok-refuse_line.ensures.does)
