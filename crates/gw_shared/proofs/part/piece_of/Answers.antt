-- What stands in the part from the place on is a part of all.
use Rattle.std.proofs.Common.{◌+◌, ◌≤◌, arith, length}
use Rattle.gw_shared.proofs.Elements.{piece_in}
use Rattle.gw_shared.proofs.part.piece_of.Goals as goal

pub returns-in-Ok-clause-part : goal.returns-in-Ok-clause-part
returns-in-Ok-clause-part g c =
    let place = c.in-Ok.place in
    let elements = g.X.Part.elements in
    let few : place.at + 1 ≤ length (elements place.own.now) = c.in-Ok.ensures.3 in
    piece_in elements c.args.parts.now place.index place.own.now place.at c.args.at
    c.in-Ok.ensures.0 c.in-Ok.ensures.1 c.in-Ok.ensures.2 c.piece.result.now (omega (arith, few)) c.piece.ensures.part
