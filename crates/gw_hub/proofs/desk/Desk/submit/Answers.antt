-- The receipt of a turn, and what one leaves whose publication failed.
use Rattle.std.proofs.Common.{◌≡◌, ◌∙◌, List, ap, arith, length, take, sym, subst}
use Rattle.gw_lists.proofs.Beginnings.{begins_with-length, begins_with-trans}
use Rattle.gw_lists.specs.Lists.{BeginsWith}
use Rattle.gw_store.specs.declared.event.Entry.{Entry}
use Rattle.gw_hub.proofs.Turns.{behind, come_begins, take_begins}
use Rattle.gw_hub.proofs.desk.Desk.submit.Goals as goal

pub overflow_sub-accepted : goal.overflow_sub-accepted
overflow_sub-accepted g c =
    let begins = come_begins _ _ _ _ _ c.in_ok-answers.ensures.come in
    omega (arith, c.changes-first.ensures.count, c.changes-front.ensures.count, begins_with-length _ _ begins)

pub returns-in-Ok-clause-receipt : goal.returns-in-Ok-clause-receipt
returns-in-Ok-clause-receipt g c =
    let changes = c.args.self.now.controller.changes in
    let changes' = c.change_in_turn.new.controller.changes in
    let later = c.learn.new.self.seen in
    let come = c.in_ok-answers.ensures.come in
    let begins = come_begins _ _ _ changes changes' come in
    let theirs : BeginsWith changes' later = subst (λ (list : List Entry). BeginsWith list later) c.in-Ok.ensures.note c.learn.ensures.theirs in
    let before : take c.changes-first.result later ≡ changes
    = ap (λ n. take n later) c.changes-first.ensures.count ∙ take_begins changes later (begins_with-trans changes changes' later begins theirs) in
    let after : take c.changes-front.result later ≡ changes' = ap (λ n. take n later) c.changes-front.ensures.count ∙ take_begins changes' later theirs in
    record {
      come = rw (before, after) come;
      counted = omega (arith, c.changes-first.ensures.count, c.changes-front.ensures.count, begins_with-length changes changes' begins);
      within = omega (arith, c.changes-front.ensures.count, begins_with-length changes' later theirs);
    }

pub returns-in-Err-clause-fault : goal.returns-in-Err-clause-fault
returns-in-Err-clause-fault g c =
    let control = c.args.self.now.controller in
    let changes' = c.change_in_turn.new.controller.changes in
    let come = c.in_ok-answers.ensures.come in
    let longer = begins_with-length control.changes changes' (come_begins _ _ _ control.changes changes' come) in
    let published = begins_with-length control.published control.changes c.changes-first.ensures.begins in (
      (c.if-ahead.ensures.seen, c.if-ahead.ensures.ahead),
      record {
        answers = c.in_ok-answers.answers.items;
        changes = control.changes;
        changes' = changes';
        come = come;
        place = sym c.changes-first.ensures.count;
        count = omega (arith, c.changes-first.ensures.count, c.changes-front.ensures.count, longer);
        within = omega (arith, c.changes-first.ensures.count, published, behind c.ahead.result _ _ c.ahead.ensures.answer c.if-ahead.false);
      },
    )

pub returns-in-Err-clause-kept : goal.returns-in-Err-clause-kept
returns-in-Err-clause-kept g c =
    let changes' = c.change_in_turn.new.controller.changes in
    let longer = begins_with-length _ changes' (come_begins _ _ _ _ changes' c.in_ok-answers.ensures.come) in (
      sym c.changes-first.ensures.count,
      omega (arith, ap length c.publish.ensures.changes, c.changes-first.ensures.count, c.changes-front.ensures.count, longer),
    )
