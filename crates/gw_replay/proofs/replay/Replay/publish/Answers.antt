-- All is published.
use Rattle.std.proofs.Common.{◌≡◌, ◌∙◌, ℕ, List, length, arith, ap, refl, sym, subst}
use Rattle.std.proofs.lemmas.List.{length-map, with_items_is}
use Rattle.std.proofs.lemmas.Result.{on_ok_weaker}
use Rattle.std.specs.Vec.{with_items}
use Rattle.gw_json.specs.Lines.{line_of}
use Rattle.gw_snap.specs.Lists.{Book}
use Rattle.gw_store.specs.declared.event.Entry.{Entry}
use Rattle.gw_text.specs.model.Doors.{Door}
use Rattle.gw_worker.specs.model.Workers.{Worker}
use Rattle.gw_replay.specs.Lines.{front_data}
use Rattle.gw_replay.specs.States.{HaveLearnt, HaveSeen, picks_of}
use Rattle.gw_replay.proofs.Keeping.{keeps_published, same_site}
use Rattle.gw_replay.proofs.replay.Replay.publish.Goals as goal

pub learn_all-requires : goal.learn_all-requires
learn_all-requires g c =
    let k = c.requires in
    let control = c.args.self.now.controller in (
      control.published,
      (
        (control.doors, control.controller),
        subst (λ (b : Book). HaveSeen control.published (control.doors, control.controller) b c.deref_mut.result.now) (sym c.in_ok-note.ensures.of)
            (subst (λ (ws : List Worker). HaveSeen control.published (control.doors, control.controller) control.book ws) (sym c.deref_mut.ensures.value) k.1.learnt),
      ),
    )

pub returns-clause-does : goal.returns-clause-does
returns-clause-does g c = on_ok_weaker c.push_front.result (λ printed. record {
  site = same_site c.args.self.now (record c.args.self.now { controller = c.publish.new.self }) c.publish.ensures.doors c.publish.ensures.controller;
  did = λ s k.
      let control = c.args.self.now.controller in
      let new = c.publish.new.self in
      let workers = with_items c.args.self.now.workers c.learn_all.new.workers in
      let size : length c.learn_all.new.workers ≡ c.args.self.now.workers.len
      = omega (arith, ap length c.learn_all.ensures.picks, length-map c.learn_all.new.workers (λ (w : Worker). w.books), length-map c.deref_mut.result.now (λ (w : Worker). w.books), c.deref_mut.ensures.len) in
      let items : workers.items ≡ c.learn_all.new.workers = with_items_is c.args.self.now.workers c.learn_all.new.workers size in
      let before : HaveSeen control.published (control.doors, control.controller) c.in_ok-note.note.book c.deref_mut.result.now
      = subst (λ (b : Book). HaveSeen control.published (control.doors, control.controller) b c.deref_mut.result.now) (sym c.in_ok-note.ensures.of)
      (subst (λ (ws : List Worker). HaveSeen control.published (control.doors, control.controller) control.book ws) (sym c.deref_mut.ensures.value) k.learnt) in
      let after : HaveSeen c.in_ok-note.note.list (control.doors, control.controller) c.in_ok-note.note.book c.learn_all.new.workers
      = c.learn_all.ensures.seen control.published (control.doors, control.controller) before in
      let learnt : HaveLearnt new workers.items
      = subst (λ (ws : List Worker). HaveLearnt new ws) (sym items)
      (subst (λ (list : List Entry). HaveSeen list (new.doors, new.controller) new.book c.learn_all.new.workers) (c.in_ok-note.ensures.note ∙ sym c.in_ok-note.ensures.ok)
      (subst (λ (b : Book). HaveSeen c.in_ok-note.note.list (new.doors, new.controller) b c.learn_all.new.workers) (c.in_ok-note.ensures.of ∙ sym c.publish.ensures.book)
      (subst (λ (d : List Door). HaveSeen c.in_ok-note.note.list (d, new.controller) c.in_ok-note.note.book c.learn_all.new.workers) (sym c.publish.ensures.doors)
      (subst (λ (n : List ℕ). HaveSeen c.in_ok-note.note.list (control.doors, n) c.in_ok-note.note.book c.learn_all.new.workers) (sym c.publish.ensures.controller) after)))) in
      record {
        state = record s { published = s.changes };
        text = line_of (front_data c.front.result c.args.number);
        does_so = record {
          state = refl;
          text_is = ap (λ (n : ℕ). line_of (front_data n c.args.number))
              (c.front.ensures.published ∙ ap length (c.in_ok-note.ensures.ok ∙ k.changes));
        };
        keeps = keeps_published c.args.self.now (record c.args.self.now {
          controller = new;
          workers = workers;
          text = c.push_front.new.text;
        }) s k refl (same_site c.args.self.now (record c.args.self.now { controller = new }) c.publish.ensures.doors c.publish.ensures.controller)
            c.publish.ensures.changes c.in_ok-note.ensures.ok learnt
            (ap picks_of items ∙ c.learn_all.ensures.picks ∙ ap picks_of c.deref_mut.ensures.value);
        printed = printed;
      };
}) c.push_front.ensures
