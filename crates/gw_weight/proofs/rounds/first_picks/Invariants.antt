use Rattle.std.proofs.Common.{◌≡◌, vec_len}
use Rattle.gw_text.specs.model.Picks.{ArePicks, drawn_after}
use Rattle.gw_weight.proofs.rounds.first_picks.Given as goal

abbrev pub invariant-loop-turn : goal.invariant-loop-turn
invariant-loop-turn l = record {
  weights : l.shares.weights ≡ l.weights;
  drawn : l.shares.drawn ≡ drawn_after l.weights l.picks.items;
  picks : ArePicks l.weights l.picks.items;
  count : vec_len l.picks ≡ l.turn;
}
