use Rattle.std.proofs.Common.{length, ◌-◌, ◌≡◌, ◌≤◌, take}
use Rattle.gw_link.specs.Pieces.{Takes, Keeps}
use Rattle.gw_link.proofs.link.write_whole.Given as goal

abbrev pub invariant-pieces : goal.invariant-pieces
invariant-pieces g l = record {
  within : l.at ≤ length l.piece;
  taken : Takes (g.K.Link.written l.fn.link) (take l.at l.piece) (g.K.Link.written l.link);
  unread : Keeps (g.K.Link.left l.fn.link) (g.K.Link.left l.link);
  later : g.K.Link.faults l.fn.link ≤ g.K.Link.faults l.link;
  none : l.at ≡ 0 → l.link ≡ l.fn.link;
}

abbrev pub decreases-pieces : goal.decreases-pieces
decreases-pieces g l = length l.piece - l.at
