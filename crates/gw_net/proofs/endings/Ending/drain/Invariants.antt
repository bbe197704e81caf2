-- A piece fewer is left to be taken.
use Rattle.std.proofs.Common.{◌-◌}
use Rattle.gw_net.proofs.endings.Ending.drain.Given as goal

abbrev pub decreases-pieces : goal.decreases-pieces
decreases-pieces l = 64 - l.self.pieces
