use Rattle.std.proofs.Common.{◌≡◌, ◌+◌, ◌≤◌, ◌-◌, vec_len}
use Rattle.gw_link.specs.declared.source.TheConstants.{MOST_INPUT}
use Rattle.gw_link.specs.Pieces.{Gives}
use Rattle.gw_link.proofs.source.read_all.Given as goal

abbrev pub invariant-pieces : goal.invariant-pieces
invariant-pieces g l = record {
  given : Gives (g.S.Source.left l.fn.source) l.input.items (g.S.Source.left l.source);
  counted : g.S.Source.given l.source ≡ g.S.Source.given l.fn.source + vec_len l.input;
  small : vec_len l.input ≤ MOST_INPUT;
  later : g.S.Source.faults l.fn.source ≤ g.S.Source.faults l.source;
}

abbrev pub decreases-pieces : goal.decreases-pieces
decreases-pieces g l = MOST_INPUT + 1 - vec_len l.input
