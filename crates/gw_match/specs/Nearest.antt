-- How the listener that takes a request is found among the tables of the listeners.
use Rattle.std.specs.Prelude.{ℕ, List, Bool, Option, filter}
use Rattle.std.specs.Ordering.{on}
use Rattle.std.specs.declared.cmp.Ordering.{Ordering}
use Rattle.gw_match.specs.model.Choice.{specificity, takes_host}
use Rattle.gw_match.specs.model.Listed.{Listed}
use Rattle.gw_rows.specs.model.Rows.{foremost}

-- The listener of the table takes requests for this host.
abbrev pub table_takes : List ℕ → Listed → Bool
table_takes host t = takes_host host t.listener

-- Which of two tables has the more specific listener.
abbrev pub by_specificity : Listed → Listed → Ordering
by_specificity = on (λ t. t.listener) specificity

-- The table of the most specific listener that takes requests for this host.
unfoldable pub table_at : List Listed → List ℕ → Option Listed
table_at tables host = foremost by_specificity (filter (table_takes host) tables)
