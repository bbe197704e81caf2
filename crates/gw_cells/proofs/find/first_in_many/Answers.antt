-- What is found in a piece is found first; where nothing is, it is found behind it.
use Rattle.std.proofs.Common.{◌∙◌, sym, ◌+◌, drop, length}
use Rattle.gw_query.proofs.Cuts.{found_behind, found_in_front}
use Rattle.gw_rows.specs.model.Fitting.{fits}
use Rattle.gw_shared.proofs.Pieces.{piece_and_rest, piece_within}
use Rattle.gw_cells.proofs.find.first_in_many.Goals as goal
use Rattle.gw_cells.specs.Cells.{first_fit}

pub pieces-preserved : goal.pieces-preserved
unfolding first_fit
pieces-preserved c =
    let all = c.args.rows.now in
    let piece = c.piece-piece.result.now in
    record {
      within = piece_within all piece c.pieces.at c.piece-piece.ensures.part c.pieces.invariant.within;
      rest = sym (found_behind (λ r. fits r c.args.request.now) piece (drop (c.pieces.at + length piece) all) (drop c.pieces.at all)
          (piece_and_rest all piece c.pieces.at c.piece-piece.ensures.part) (sym c.in_default.ensures)) ∙ c.pieces.invariant.rest;
    }

pub returns-in-Some : goal.returns-in-Some
unfolding first_fit
returns-in-Some c =
    let all = c.args.rows.now in
    let piece = c.piece-piece.result.now in
    found_in_front (λ r. fits r c.args.request.now) piece (drop (c.pieces.at + length piece) all) (drop c.pieces.at all)
    (piece_and_rest all piece c.pieces.at c.piece-piece.ensures.part) (sym c.in-Some.ensures) ∙ c.pieces.invariant.rest
