-- An interrupted write leaves nothing.
use Rattle.std.specs.Io.KnownBytes.{Keeps}
use Rattle.gw_net.proofs.pieces.write_piece.Given as goal

abbrev pub invariant-tries : goal.invariant-tries
invariant-tries g l = Keeps (g.W.Write.contents l.fn.writer) (g.W.Write.contents l.writer)
