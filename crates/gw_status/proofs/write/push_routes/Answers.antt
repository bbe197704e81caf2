-- A piece ends within the list, and its lines come next.
use Rattle.std.proofs.Common.{◌++◌, string_bytes}
use Rattle.gw_shared.proofs.Pieces.{piece_within}
use Rattle.gw_status.specs.StatusText.{route_line, routes_text}
use Rattle.gw_status.proofs.Pieces.{piece_written}
use Rattle.gw_status.proofs.write.push_routes.Goals as goal

pub pieces-preserved : goal.pieces-preserved
pieces-preserved c =
    let all = c.args.statuses.now in
    let piece = c.piece-piece.result.now in
    record {
      within = piece_within all piece c.pieces.at c.piece-piece.ensures.part c.pieces.invariant.within;
      text = piece_written (λ s. route_line s s.parents) all piece c.pieces.at (string_bytes c.args.text.now ++ routes_text all) _ _
          c.piece-piece.ensures.part c.in_ok-push_route_piece.ensures c.pieces.invariant.text;
    }
