-- One word more is drawn.
use Rattle.std.proofs.Common.{◌∙◌}
use Rattle.gw_generate.proofs.Drawing.{behind_more, drawn_more}
use Rattle.gw_generate.proofs.draw.drawn.Goals as goal

pub words-preserved : goal.words-preserved
words-preserved c = record {
  words = drawn_more _ _ _ _ _ c.words-test.true c.next_word.ensures _ _ _ _ c.in_ok-push.ensures.items c.words.invariant.words;
  behind = behind_more _ _ _ _ _ c.words-test.true c.next_word.ensures ∙ c.words.invariant.behind;
}
