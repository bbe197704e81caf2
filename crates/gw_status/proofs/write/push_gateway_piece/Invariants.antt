-- The text so far, with the lines of the rest, is the whole.
use Rattle.std.proofs.Common.{◌≡◌, ◌++◌, drop, string_bytes}
use Rattle.gw_status.specs.StatusText.{gateways_text}
use Rattle.gw_status.proofs.write.push_gateway_piece.Given as goal

abbrev pub invariant-statuses : goal.invariant-statuses
invariant-statuses l =
    string_bytes l.text ++ gateways_text (drop l.status-index l.piece) ≡ string_bytes l.fn.text ++ gateways_text l.piece
