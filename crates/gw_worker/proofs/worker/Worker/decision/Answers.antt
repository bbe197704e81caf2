-- The table is that of what the pass has seen.
use Rattle.std.proofs.Common.{◌≡◌, ◌∙◌, ap, refl, subst, get_or}
use Rattle.gw_answers.specs.Left.{AreLeft}
use Rattle.gw_answers.specs.model.Decisions.{books_after, decision_of}
use Rattle.gw_match.specs.model.Telling.{Tables}
use Rattle.gw_rows.specs.model.Rows.{Rows}
use Rattle.gw_worker.proofs.Deciding.{only_read, only_seen, table_is}
use Rattle.gw_worker.specs.model.Sessions.{Place, decision_at, no_rows}
use Rattle.gw_worker.specs.model.Workers.{Worker}
use Rattle.gw_worker.specs.Workers.{Decides, IsAt, IsLeftBy, handled_by}
use Rattle.gw_answers.proofs.Left.{on_err}
use Rattle.gw_worker.proofs.worker.Worker.decision.Goals as goal

pub returns-in_err-decision-clause-err : goal.returns-in_err-decision-clause-err
returns-in_err-decision-clause-err c =
    let v = c.in_ok-view.ensures in
    let was : Worker = record { pass = c.self.inside.pass; books = c.self.inside.books } in
    let now : Worker = record { pass = c.read.new.self; books = c.of.new.books } in
    let left : (p : Place) → IsAt was p → p.door ≡ c.args.door → IsLeftBy p was now c.args.request.now = λ p at door.
    let is = table_is _ _ _ p _ _ _ v.tells (c.table.ensures no_rows ∙ ap (λ (t : Tables). get_or t.tables c.args.door no_rows) c.deref.ensures) v.value v.fixed at.doors at.controller door in
    record {
      pass = only_read was.pass now.pass v.fixed v.book v.ahead;
      later = v.later;
      books = subst (λ (r : Rows). AreLeft was.books (books_after r c.args.request.now was.books) now.books) is c.in_err-decision.ensures.err;
    } in
    on_err _ (subst (λ (w : Worker). (p : Place) → IsAt w p → p.door ≡ c.args.door → IsLeftBy p w now c.args.request.now) c.self.view_is left)

pub returns-clause-decision : goal.returns-clause-decision
returns-clause-decision c =
    let v = c.in_ok-view.ensures in
    let was : Worker = record { pass = c.self.inside.pass; books = c.self.inside.books } in
    let now : Worker = record { pass = c.read.new.self; books = c.of.new.books } in
    let is : (p : Place) → IsAt was p → p.door ≡ c.args.door → c.in_ok-decision.decision ≡ decision_at p c.args.request.now (handled_by was now) = λ p at door.
    c.in_ok-decision.ensures.value
    ∙ ap (λ (r : Rows). decision_of r c.args.request.now was.books)
    (table_is _ _ _ p _ _ _ v.tells (c.table.ensures no_rows ∙ ap (λ (t : Tables). get_or t.tables c.args.door no_rows) c.deref.ensures) v.value v.fixed at.doors at.controller door) in
    subst (λ (w : Worker). (p : Place) → IsAt w p → p.door ≡ c.args.door → c.in_ok-decision.decision ≡ decision_at p c.args.request.now (handled_by w now)) c.self.view_is is

pub returns-clause-decides : goal.returns-clause-decides
returns-clause-decides c =
    let v = c.in_ok-view.ensures in
    let was : Worker = record { pass = c.self.inside.pass; books = c.self.inside.books } in
    let now : Worker = record { pass = c.read.new.self; books = c.of.new.books } in
    let so : (p : Place) → IsAt was p → p.door ≡ c.args.door → Decides p was now c.args.request.now (handled_by was now) = λ p at door.
    let is = table_is _ _ _ p _ _ _ v.tells (c.table.ensures no_rows ∙ ap (λ (t : Tables). get_or t.tables c.args.door no_rows) c.deref.ensures) v.value v.fixed at.doors at.controller door in
    record {
      pass = only_seen was.pass now.pass v.fixed v.book v.ahead v.ok;
      later = v.later;
      books = refl;
      counted = c.in_ok-decision.ensures.after ∙ ap (λ (r : Rows). books_after r c.args.request.now was.books) is;
    } in
    subst (λ (w : Worker). (p : Place) → IsAt w p → p.door ≡ c.args.door → Decides p w now c.args.request.now (handled_by w now)) c.self.view_is so
