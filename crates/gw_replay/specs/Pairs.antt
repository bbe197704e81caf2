-- Which row goes with which exchange.
use Rattle.std.specs.Prelude.{ℕ, List, [], ◌∷◌, ◌++◌, Bool, true, false, not, ◌&&◌, is_some, Option, None, Some}
use Rattle.gw_answers.specs.model.ServedRows.{ServedRow}
use Rattle.gw_link.specs.Exchanges.{Exchange}
use Rattle.gw_replies.specs.declared.fault.BackendFault.TheVariants.{Open, Send}
use Rattle.gw_replies.specs.declared.fault.FaultName.{FaultName}
use Rattle.gw_replies.specs.declared.fault.FaultName.TheVariants.{Backend}
use Rattle.gw_replay.specs.Lines.{row_line}

-- No connection was opened.
abbrev pub is_open : Option FaultName → Bool
is_open (Some (Backend Open)) = true
is_open fault = false

-- Not all was sent.
abbrev pub is_send : Option FaultName → Bool
is_send (Some (Backend Send)) = true
is_send fault = false

-- A connection was opened for the row.
abbrev pub has_exchange : ServedRow → Bool
has_exchange row = is_some row.endpoint && not (is_open row.fault)

-- The next exchange, where a connection was opened.
abbrev pub next_exchange : Bool → List Exchange → Option Exchange
next_exchange false exchanges = None
next_exchange true [] = None
next_exchange true (e ∷ exchanges) = Some e

-- Those that are left for the rows behind.
abbrev pub exchanges_left : Bool → List Exchange → List Exchange
exchanges_left false exchanges = exchanges
exchanges_left true [] = []
exchanges_left true (e ∷ exchanges) = exchanges

-- What was sent in an exchange, where it was all.
abbrev pub sent_in : Bool → Option Exchange → Option (List ℕ)
sent_in part None = None
sent_in true (Some e) = None
sent_in false (Some e) = Some e.sent

-- The lines of rows, of which each takes the next exchange where it has one.
abbrev pub paired_text : List ℕ → ℕ → List ServedRow → List Exchange → List ℕ
paired_text name line [] exchanges = []
paired_text name line (row ∷ rows) exchanges =
    row_line name line row (sent_in (is_send row.fault) (next_exchange (has_exchange row) exchanges))
    ++ paired_text name line rows (exchanges_left (has_exchange row) exchanges)
