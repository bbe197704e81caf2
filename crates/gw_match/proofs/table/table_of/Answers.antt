-- They are the tables of one door, and have its rows.
use Rattle.std.proofs.Common.{◌∙◌}
use Rattle.gw_match.proofs.Owning.{tables_have, tables_of_door}
use Rattle.gw_match.proofs.table.table_of.Goals as goal
use Rattle.gw_rows.specs.model.Rows.{Rows}

pub of-requires : goal.of-requires
of-requires c =
    let door : Rows = record { listeners = c.args.listeners.items; rows = c.args.rows.items } in
    tables_of_door door c.as_slice.result.now c.as_slice-2.result.now c.in_ok-tables.tables.items (c.as_slice.ensures.value ∙ c.in_ok-listeners.ensures)
    (c.as_slice-2.ensures.value ∙ c.in_ok-rows.ensures) c.in_ok-tables.ensures c.requires

pub returns : goal.returns
returns c =
    let door : Rows = record { listeners = c.args.listeners.items; rows = c.args.rows.items } in
    c.of.ensures
    ∙ tables_have door c.as_slice.result.now c.as_slice-2.result.now c.in_ok-tables.tables.items (c.as_slice.ensures.value ∙ c.in_ok-listeners.ensures)
    (c.as_slice-2.ensures.value ∙ c.in_ok-rows.ensures) c.in_ok-tables.ensures c.requires
