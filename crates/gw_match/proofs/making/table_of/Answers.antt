-- Its rows are all its own.
use Rattle.std.proofs.Common.{◌∙◌, ap, filter, []}
use Rattle.gw_match.specs.model.Listed.{is_row_of}
use Rattle.gw_match.proofs.Owning.{table_rows}
use Rattle.gw_match.proofs.making.table_of.Goals as goal
use Rattle.gw_rows.specs.model.Rows.{ServedListener}

pub with_inserted-requires-clause-rows : goal.with_inserted-requires-clause-rows
with_inserted-requires-clause-rows c =
    table_rows c.args.listener.now c.args.rows.now c.new.result c.new-empty.result
    (c.new.ensures ∙ c.in_ok-own.ensures ∙ ap (λ (l : ServedListener). filter (is_row_of l) c.args.rows.now) c.deref.ensures)
    (c.new-empty.ensures ∙ ap (λ (l : ServedListener). record { listener = l; routes = [] }) c.in_ok-share.ensures)
    c.requires
