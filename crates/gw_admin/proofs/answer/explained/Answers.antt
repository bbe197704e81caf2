-- The rows are those after all changes that were seen.
use Rattle.std.proofs.Common.{◌∙◌, ℕ, List, ap, ap₂}
use Rattle.gw_admin_texts.specs.model.Questions.{explanation_reply}
use Rattle.gw_lists.proofs.Beginnings.{begins_with-self}
use Rattle.gw_match.specs.model.Telling.{Tables}
use Rattle.gw_rows.specs.model.Rows.{Rows}
use Rattle.gw_admin.proofs.Answering.{tables_counted, tables_seen}
use Rattle.gw_admin.proofs.answer.explained.Goals as goal

pub explanation_reply-requires : goal.explanation_reply-requires
explanation_reply-requires c = rw c.deref.ensures (tables_counted _ _ c.in_ok-view.ensures.tells)

pub returns-clause-answered : goal.returns-clause-answered
returns-clause-answered c =
    let so = c.in_ok-view.ensures in
    record {
      changes = c.read.new.self.seen;
      reply_is = c.in_ok-explanation_reply.ensures ∙ ap₂ (λ (tables : List Rows) (front : ℕ). explanation_reply tables c.args.question.now front)
          (ap (λ (t : Tables). t.tables) c.deref.ensures ∙ tables_seen _ _ _ c.args.pass.now.fixed so.tells so.value so.fixed) so.front;
      begins = so.later;
      within = begins_with-self _;
    }
