use Rattle.std.proofs.Common.{rules, arith, refl}
use Rattle.std.proofs.lemmas.List.{take_rest}
use Rattle.gw_link.proofs.ExchangeLemmas.{Sends-nothing, Sends-more}
use Rattle.gw_polling.proofs.PartLemmas.{part_more, part_none}
use Rattle.gw_polling.proofs.poll_upstream.send_on.Goals as goal

pub pieces-init : goal.pieces-init
pieces-init g c = record {
  later = search rules;
  within = c.requires.within;
  taken = rw (part_none c.args.piece.now c.args.sent.now) (Sends-nothing _);
  at = refl;
  unmarked = λ none. none;
  faults = search rules;
  waits = search rules;
  task = λ fact holds. holds;
  same = refl;
  goes = g.met.U.PollUpstream.becomes_self _;
  none = λ is. refl;
}

pub pieces-preserved : goal.pieces-preserved
pieces-preserved g c =
    let some = rw c.in-Ready-Ok.field-0-is at c.in-Ready-Ok.ensures.some in
    record {
      later = search rules;
      within = search rules;
      taken = rw (part_more c.args.piece.now c.args.sent.now c.pieces.sent c.in-Ready-Ok.taken c.pieces.invariant.later)
          (Sends-more _ _ _ _ _ c.pieces.invariant.taken (rw (c.in-Ready-Ok.field-0-is, take_rest) at c.in-Ready-Ok.ensures.sends));
      at = search rules;
      unmarked = search rules;
      faults = search rules;
      waits = search rules;
      task = λ fact holds. c.poll_send.ensures.task fact (c.pieces.invariant.task fact holds);
      same = search rules;
      goes = g.met.U.PollUpstream.becomes_then _ _ _ c.pieces.invariant.goes c.poll_send.ensures.goes;
      none = λ is. absurd (omega (arith, some, c.pieces.invariant.later, is));
    }
