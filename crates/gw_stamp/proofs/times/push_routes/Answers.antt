-- A piece ends within the list, and its times come next.
use Rattle.std.proofs.Common.{◌++◌}
use Rattle.std.specs.List.{flat_map}
use Rattle.gw_shared.proofs.Pieces.{piece_within}
use Rattle.gw_stamp.specs.Entries.{stamp_at}
use Rattle.gw_stamp.specs.Stamping.{times_in}
use Rattle.gw_stamp.specs.Stated.{route_stated}
use Rattle.gw_stamp.proofs.Walking.{piece_done}
use Rattle.gw_stamp.proofs.times.push_routes.Goals as goal

pub pieces-preserved : goal.pieces-preserved
pieces-preserved c =
    let all = c.args.statuses.now in
    let piece = c.piece-piece.result.now in
    record {
      within = piece_within all piece c.pieces.first c.piece-piece.ensures.part c.pieces.invariant.within;
      times = piece_done (λ s. times_in (stamp_at c.args.stamps.now) (route_stated s)) all piece c.pieces.first (c.args.times.now ++ flat_map (λ s. times_in (stamp_at c.args.stamps.now) (route_stated s)) all) _ _
          c.piece-piece.ensures.part c.in_ok-push_route_piece.ensures c.pieces.invariant.times;
    }
