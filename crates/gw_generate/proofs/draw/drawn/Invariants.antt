-- What is drawn so far, then what is still to be drawn, is all.
use Rattle.std.proofs.Common.{◌≡◌, ◌-◌, ◌++◌}
use Rattle.gw_generate.specs.Draws as draws
use Rattle.gw_generate.proofs.draw.drawn.Given as goal

abbrev pub invariant-words : goal.invariant-words
invariant-words l = record {
  words : l.words.items ++ draws.drawn l.generator (l.count - l._word) l.below ≡ draws.drawn l.fn.generator l.count l.below;
  behind : draws.behind l.generator (l.count - l._word) ≡ draws.behind l.fn.generator l.count;
}
