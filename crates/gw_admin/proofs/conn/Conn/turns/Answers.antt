-- One turn more.
use Rattle.std.proofs.Common.{◌≡◌, ◌∙◌, ◌++◌, None, Some, refl, arith}
use Rattle.gw_lists.proofs.Beginnings.{begins_with-self, begins_with-trans}
use Rattle.gw_admin.specs.Answering.{place_of}
use Rattle.gw_admin.specs.declared.conn.Flow.TheVariants.{More}
use Rattle.gw_admin.proofs.Causes.{nothing_then, on_err}
use Rattle.gw_admin.proofs.Turning.{broke_then, reads_more, reads_on, turned_none, turned_then}
use Rattle.gw_link.proofs.KeptLemmas.{keeps_self, keeps_then}
use Rattle.gw_admin.proofs.conn.Conn.turns.Goals as goal

pub turns-init : goal.turns-init
turns-init g c = record {
  turned = λ bytes parts r. turned_none (place_of g.N.HubName.doors g.N.HubName.controller) c.args.self.now _ bytes parts _ r;
  serving = c.requires.serving;
  over = refl;
  counts = record { refused = refl; ahead = refl };
  unread = keeps_self _;
  link_later = omega arith;
  later = begins_with-self _;
  book = refl;
  fixed = refl;
}

pub turns-preserved : goal.turns-preserved
turns-preserved g c =
    let p = place_of g.N.HubName.doors g.N.HubName.controller in
    let i = c.turns.invariant in
    let so = c.in_ok-flow.ensures in
    let turned = rw c.in_default.is at so.turned in
    record {
      turned = λ bytes parts r.
          let t = i.turned bytes parts r in
          turned_then p c.turns.self c.turn.new.self _ _ bytes bytes parts _ _ _ None t (turned bytes (parts ++ t.more) (reads_on p c.turns.self _ bytes parts _ _ t));
      serving = record {
        bytes = i.serving.bytes;
        parts = _;
        reading = reads_on p c.turn.new.self _ i.serving.bytes i.serving.parts _ _ (turned i.serving.bytes i.serving.parts i.serving.reading);
        few = so.few;
      };
      over = so.over ∙ i.over;
      counts = nothing_then _ _ _ i.counts so.counts;
      unread = keeps_then _ _ _ i.unread so.unread;
      link_later = omega (arith, i.link_later, so.link_later);
      later = begins_with-trans _ _ _ i.later so.later;
      book = so.book ∙ i.book;
      fixed = so.fixed ∙ i.fixed;
    }

pub returns-in_err-flow-clause-broke : goal.returns-in_err-flow-clause-broke
returns-in_err-flow-clause-broke g c = on_err c.from_residual.result (λ bytes parts r.
    let p = place_of g.N.HubName.doors g.N.HubName.controller in
    let t = c.turns.invariant.turned bytes parts r in
    broke_then p c.turns.self c.turn.new.self _ bytes bytes parts _ _ _ t (c.in_err-flow.ensures.broke bytes (parts ++ t.more) (reads_on p c.turns.self _ bytes parts _ _ t)))

pub returns-in-Some-clause-turned : goal.returns-in-Some-clause-turned
returns-in-Some-clause-turned g c = λ bytes parts r.
    let p = place_of g.N.HubName.doors g.N.HubName.controller in
    let t = c.turns.invariant.turned bytes parts r in
    let turned = rw c.in-Some.is at c.in_ok-flow.ensures.turned in
    turned_then p c.turns.self c.turn.new.self _ _ bytes bytes parts _ _ _ (Some c.in-Some.flow) t (turned bytes (parts ++ t.more) (reads_on p c.turns.self _ bytes parts _ _ t))

pub returns-in-Some-clause-serving : goal.returns-in-Some-clause-serving
returns-in-Some-clause-serving g c = λ is.
    let p = place_of g.N.HubName.doors g.N.HubName.controller in
    let i = c.turns.invariant.serving in
    let more : c.in-Some.flow ≡ More = cc is in
    let turned = rw (c.in-Some.is, more) at c.in_ok-flow.ensures.turned in
    record {
      bytes = i.bytes;
      parts = _;
      reading = reads_more p c.turn.new.self _ i.bytes i.parts _ _ (turned i.bytes i.parts i.reading);
      few = c.in_ok-flow.ensures.few;
    }
