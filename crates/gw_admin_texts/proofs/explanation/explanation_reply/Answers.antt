-- The door is there, or it isn't.
use Rattle.std.proofs.Common.{◌≡◌, ◌∙◌, ap, subst, arith}
use Rattle.gw_decide.specs.ExplainText.{explain_text}
use Rattle.gw_admin_texts.specs.declared.reply.Status.TheVariants.{Ok}
use Rattle.gw_admin_texts.specs.model.Questions.{Question, bad_request, explanation_reply}
use Rattle.gw_admin_texts.specs.model.Replies.{with_body}
use Rattle.gw_admin_texts.proofs.Explaining.{explained_at, explained_nowhere}
use Rattle.gw_admin_texts.proofs.explanation.explanation_reply.Goals as goal

pub returns-then-door-doors : goal.returns-then-door-doors
returns-then-door-doors c =
    let tables = c.args.tables.now.tables in
    c.empty.ensures ∙ subst (λ (q : Question). bad_request ≡ explanation_reply tables q c.args.front) c.question.view_is
    (explained_nowhere tables (record { door = c.question.inside.door; request = c.question.inside.request }) c.args.front (omega (arith, c.if-door-doors.true, c.doors.ensures, c.requires)))

pub returns : goal.returns
returns c =
    let tables = c.args.tables.now.tables in
    let request = c.question.inside.request in
    c.of.ensures ∙ subst (λ (q : Question). with_body Ok c.in_ok-text.text ≡ explanation_reply tables q c.args.front) c.question.view_is
    (explained_at tables (record { door = c.question.inside.door; request = request }) c.args.front c.in_ok-text.text (omega (arith, c.if-door-doors.false, c.doors.ensures, c.requires))
    (λ r. c.in_ok-text.ensures ∙ ap (λ rows. explain_text rows request c.args.front) (c.table.ensures r)))
