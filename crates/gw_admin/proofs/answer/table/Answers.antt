-- The rows are those after all changes that were seen.
use Rattle.std.proofs.Common.{◌∙◌, ap, ap₂, refl}
use Rattle.gw_admin_texts.specs.declared.resource.Destination.TheVariants.{Found}
use Rattle.gw_admin_texts.specs.declared.resource.Resource.TheVariants.{Table}
use Rattle.gw_admin_texts.specs.model.Listings.{table_reply}
use Rattle.gw_lists.proofs.Beginnings.{begins_with-self}
use Rattle.gw_match.specs.model.Telling.{Tables}
use Rattle.gw_admin.proofs.Answering.{answered_by, over, tables_counted, tables_seen}
use Rattle.gw_admin.proofs.answer.table.Goals as goal

pub table_reply-requires : goal.table_reply-requires
table_reply-requires c = rw c.deref.ensures (tables_counted _ _ c.in_ok-view.ensures.tells)

pub returns-clause-answered : goal.returns-clause-answered
returns-clause-answered c = λ body moments.
    let so = c.in_ok-view.ensures in
    answered_by _ (Found Table) body _ _ _ moments (over c.read.new.self.seen)
    (c.in_ok-table_reply.ensures ∙ ap₂ table_reply (ap (λ (t : Tables). t.tables) c.deref.ensures ∙ tables_seen _ _ _ c.args.pass.now.fixed so.tells so.value so.fixed) so.front)
    tt so.later (begins_with-self _) refl
