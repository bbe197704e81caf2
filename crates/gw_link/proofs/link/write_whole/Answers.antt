use Rattle.std.proofs.Common.{rules, take-add, arith}
use Rattle.std.proofs.lemmas.List.{take_rest}
use Rattle.gw_link.proofs.PieceLemmas.{Takes-more}
use Rattle.gw_link.proofs.link.write_whole.Goals as goal

pub pieces-preserved : goal.pieces-preserved
pieces-preserved g c = record {
  within = search rules;
  taken = rw take-add (Takes-more _ _ _ _ _ c.pieces.invariant.taken (rw take_rest at c.in_ok-at.ensures.takes));
  unread = search rules;
  later = search rules;
  none = λ zero. absurd (omega (arith, c.in_ok-at.ensures.some));
}
