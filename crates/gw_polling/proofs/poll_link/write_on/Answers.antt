use Rattle.std.proofs.Common.{rules, arith}
use Rattle.std.proofs.lemmas.List.{take_rest}
use Rattle.gw_link.proofs.PieceLemmas.{Takes-more}
use Rattle.gw_polling.proofs.PartLemmas.{part_more}
use Rattle.gw_polling.proofs.poll_link.write_on.Goals as goal

pub pieces-preserved : goal.pieces-preserved
pieces-preserved g c =
    let some = rw c.in-Ready-Ok.field-0-is at c.in-Ready-Ok.ensures.some in
    record {
      later = search rules;
      within = search rules;
      taken = rw (part_more c.args.piece.now c.args.at.now c.pieces.at c.in-Ready-Ok.taken c.pieces.invariant.later)
          (Takes-more _ _ _ _ _ c.pieces.invariant.taken (rw (c.in-Ready-Ok.field-0-is, take_rest) at c.in-Ready-Ok.ensures.takes));
      unread = search rules;
      unended = search rules;
      unmarked = search rules;
      faults = search rules;
      waits = search rules;
      unwaited = search rules;
      task = λ fact holds. c.poll_write.ensures.task fact (c.pieces.invariant.task fact holds);
      same = search rules;
      none = λ is. absurd (omega (arith, some, c.pieces.invariant.later, is));
    }
