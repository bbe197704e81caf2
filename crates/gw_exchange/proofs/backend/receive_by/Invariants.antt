use Rattle.std.proofs.Common.{◌≡◌, ◌≤◌, ◌+◌, ◌-◌, List, ℕ, true, is_some}
use Rattle.gw_exchange.specs.declared.backend.TheConstants.{MOST_GIVEN}
use Rattle.gw_exchange.proofs.Receiving.{IsReceiving}
use Rattle.gw_exchange.proofs.backend.receive_by.Given as goal

abbrev pub invariant-pieces : goal.invariant-pieces
invariant-pieces g l = record {
  so_far : (given : List ℕ) × IsReceiving l.fn.reader.to_head l.reader l.given (g.U.Upstream.exchanges l.fn.up) (g.U.Upstream.exchanges l.up) given;
  few : l.given ≤ MOST_GIVEN;
  connected : is_some (g.U.Upstream.at l.up) ≡ true;
  at : g.U.Upstream.at l.up ≡ g.U.Upstream.at l.fn.up;
  later : g.U.Upstream.faults l.fn.up ≤ g.U.Upstream.faults l.up;
  goes : g.U.Upstream.becomes l.fn.up l.up;
}

abbrev pub decreases-pieces : goal.decreases-pieces
decreases-pieces g l = MOST_GIVEN + 1 - l.given
