-- The poll, and where the connection is put.
use Rattle.std.proofs.Common.{◌∙◌, ap, append-nil, refl, sym}
use Rattle.futures.specs.declared.task.Poll.TheVariants.{Pending, Ready}
use Rattle.gw_poll.specs.declared.conn_future.ConnFuture.{ConnFuture}
use Rattle.gw_poll.proofs.crowd.poll_one.Goals as goal

pub returns-in-Pending-clause-polls : goal.returns-in-Pending-clause-polls
returns-in-Pending-clause-polls g c = record {
  turn = record { number = c.member.inside.number; before = c.deref_mut.result.now; after = c.poll.new.self; w = c.args.w.now; w' = c.poll.new.w; answer = Pending };
  before_is = refl;
  after_is = refl;
  member_is = ap (λ (conn : ConnFuture _ _). record { number = c.member.inside.number; conn = conn }) c.deref_mut.ensures.value ∙ c.member.view_is;
  polled = record {
    goes = c.in-Pending.ensures.goes;
    broke = tt;
    ends = tt;
    caught_up = c.in-Pending.ensures.caught_up;
    used_up = c.in-Pending.ensures.used_up;
    waits = c.in-Pending.ensures.waits;
    idle = c.in-Pending.ensures.idle;
    over = c.in-Pending.ensures.over;
    unended = c.poll.ensures.unended;
    cause = tt;
    refused = c.in-Pending.ensures.refused;
  };
  waiting_are = c.push_reserved.ensures.items;
  gone_are = sym (append-nil _);
  door = c.poll.ensures.door;
  going = c.in-Pending.ensures.going;
}

pub returns-in-Ready-clause-polls : goal.returns-in-Ready-clause-polls
returns-in-Ready-clause-polls g c = record {
  turn = record { number = c.member.inside.number; before = c.deref_mut.result.now; after = c.poll.new.self; w = c.args.w.now; w' = c.poll.new.w; answer = Ready c.in-Ready.result };
  before_is = refl;
  after_is = refl;
  member_is = ap (λ (conn : ConnFuture _ _). record { number = c.member.inside.number; conn = conn }) c.deref_mut.ensures.value ∙ c.member.view_is;
  polled = record {
    goes = c.in-Ready.ensures.goes;
    broke = c.in-Ready.ensures.broke;
    ends = c.in-Ready.ensures.ends;
    caught_up = tt;
    used_up = tt;
    waits = tt;
    idle = tt;
    over = c.in-Ready.ensures.over;
    unended = c.poll.ensures.unended;
    cause = c.in-Ready.ensures.cause;
    refused = c.in-Ready.ensures.refused;
  };
  waiting_are = sym (append-nil _);
  gone_are = rw (c.push_reserved-in-Ready.ensures.items, c.into_parts-rows.ensures, c.into_inner.ensures) refl;
  door = c.poll.ensures.door;
  going = tt;
}
