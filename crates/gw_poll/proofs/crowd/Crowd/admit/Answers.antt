-- One connection more may be polled.
use Rattle.std.proofs.Common.{refl, arith}
use Rattle.gw_poll.proofs.Crowding.{can_turn_more}
use Rattle.gw_poll.proofs.crowd.Crowd.admit.Goals as goal

pub returns-then-is_err-clause-can_turn : goal.returns-then-is_err-clause-can_turn
returns-then-is_err-clause-can_turn g c =
    let can = c.requires.can_turn in
    record {
      few = rw c.reserve.ensures.items can.few;
      door = can.door;
      open_at = rw c.reserve.ensures.items can.open_at;
      different = rw c.reserve.ensures.items can.different;
    }

pub returns-in-Err-clause-can_turn : goal.returns-in-Err-clause-can_turn
returns-in-Err-clause-can_turn g c =
    let can = c.requires.can_turn in
    record {
      few = rw c.reserve.ensures.items can.few;
      door = can.door;
      open_at = rw c.reserve.ensures.items can.open_at;
      different = rw c.reserve.ensures.items can.different;
    }

pub returns-in-Ok-clause-ok : goal.returns-in-Ok-clause-ok
returns-in-Ok-clause-ok g c = record {
  conn = c.new.result;
  members = rw (c.reserve.ensures.items, c.in-Ok.ensures.ok) at c.push_reserved.ensures.items;
  link_is = c.new.ensures.link;
  up_is = c.new.ensures.up;
  follows = c.new.ensures.follows;
}

pub returns-in-Ok-clause-can_turn : goal.returns-in-Ok-clause-can_turn
returns-in-Ok-clause-can_turn g c =
    can_turn_more g.U.PollUpstream c.args.self.now _ (record { number = c.args.number; conn = c.new.result }) c.requires.can_turn (rw (c.reserve.ensures.items, c.in-Ok.ensures.ok) at c.push_reserved.ensures.items) refl refl
    (grind (arith, c.requires.can_turn.few, c.if-len-eq-MOST_OPEN.false, c.len.ensures))
    (c.new.ensures.going _, c.new.ensures.door) c.requires.fresh
