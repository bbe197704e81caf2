use Rattle.std.proofs.Common.{rules, take-add, arith, refl}
use Rattle.std.proofs.lemmas.List.{take_rest}
use Rattle.gw_link.proofs.ExchangeLemmas.{Sends-nothing, Sends-more}
use Rattle.gw_link.proofs.upstream.send_whole.Goals as goal

pub pieces-init : goal.pieces-init
pieces-init g c = record {
  within = search rules;
  sent = Sends-nothing _;
  at = search rules;
  later = search rules;
  goes = g.met.U.Upstream.becomes_self _;
  none = λ zero. refl;
}

pub pieces-preserved : goal.pieces-preserved
pieces-preserved g c = record {
  within = search rules;
  sent = rw take-add (Sends-more _ _ _ _ _ c.pieces.invariant.sent (rw take_rest at c.in_ok-at.ensures.sends));
  at = search rules;
  later = search rules;
  goes = g.met.U.Upstream.becomes_then _ _ _ c.pieces.invariant.goes c.in_ok-at.ensures.goes;
  none = λ zero. absurd (omega (arith, c.in_ok-at.ensures.some));
}
