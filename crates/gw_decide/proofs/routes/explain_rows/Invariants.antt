-- The list so far is that of the rows so far.
use Rattle.std.proofs.Common.{◌≡◌, true, take, option_copied}
use Rattle.std.specs.List.{AllByRecursion}
use Rattle.gw_text.specs.model.Forms.{is_key}
use Rattle.gw_decide.specs.Entries.{explained_over}
use Rattle.gw_decide.specs.model.Reasons.{reason_at}
use Rattle.gw_decide.proofs.routes.explain_rows.Given as goal

abbrev pub invariant-rows : goal.invariant-rows
invariant-rows l = record {
  reasons : l.reasons ≡ explained_over (reason_at (option_copied l.listener) (option_copied l.best) l.request) (take l.row-index l.rows);
  forms : AllByRecursion (λ r. is_key r.key ≡ true) (take l.row-index l.rows);
}
