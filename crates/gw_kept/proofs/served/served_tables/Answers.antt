-- All listeners have such rows.
use Rattle.gw_kept.proofs.served.served_tables.Goals as goal

pub served_table-requires-clause-rows : goal.served_table-requires-clause-rows
served_table-requires-clause-rows c = c.requires.rows c.in-Some.listener
