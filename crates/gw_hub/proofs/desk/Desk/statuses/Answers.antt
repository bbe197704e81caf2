-- The statuses are those after the changes that are published then.
use Rattle.std.proofs.Common.{◌≡◌, ◌∙◌, List, ap, take, sym, subst}
use Rattle.gw_lists.specs.Lists.{BeginsWith}
use Rattle.gw_store.specs.declared.event.Entry.{Entry}
use Rattle.gw_hub.proofs.Turns.{seen_begins, take_begins}
use Rattle.gw_hub.proofs.desk.Desk.statuses.Goals as goal

pub returns-clause-begins : goal.returns-clause-begins
returns-clause-begins g c =
    let control = c.args.self.now.controller in
    let seen = c.args.pass.now.seen in
    let later = c.learn.new.self.seen in
    let theirs = subst (λ (list : List Entry). BeginsWith list later) c.in_ok-note.ensures.note c.learn.ensures.theirs in
    let mine = subst (λ (list : List Entry). BeginsWith list later) c.ahead.ensures.seen c.learn.ensures.mine in
    let up_to : take c.changes-front.result later ≡ control.changes = ap (λ n. take n later) c.changes-front.ensures.count ∙ take_begins control.changes later theirs in
    subst (λ (list : List Entry). BeginsWith seen list) (sym up_to)
    (seen_begins seen control.published control.changes later c.ahead.result c.ahead.ensures.answer c.if-ahead.false c.changes-front.ensures.begins mine theirs)
