-- A text is written on.
use Rattle.std.proofs.Common.{◌≡◌, length, refl, sym, arith}
use Rattle.std.proofs.lemmas.List.{drop_all}
use Rattle.gw_poll.proofs.Stepping.{gives_up_written, goes_written}
use Rattle.gw_poll.specs.Histories.{no_call}
use Rattle.gw_poll.proofs.course.Course.write.Goals as goal

pub write_on-requires : goal.write_on-requires
write_on-requires g c = rw c.bytes.ensures c.requires.going.1.at.1

pub returns-in-Ready-Ok-clause-goes : goal.returns-in-Ready-Ok-clause-goes
returns-in-Ready-Ok-clause-goes g c = λ w p h x n f.
    let whole : c.write_on.new.at ≡ length c.args.text = rw c.bytes.ensures at (rw c.in-Ready-Ok.field-0-is at c.in-Ready-Ok.ensures.whole) in
    goes_written p c.args.self.now _ h c.args.text c.args.at c.write_on.new.at _ _ _ _ f c.write_on.ensures.later refl (sym (drop_all c.write_on.new.at c.args.text (omega (arith, whole)))) (λ unasked. unasked)
    c.write_on.ensures.unread (rw c.bytes.ensures at c.write_on.ensures.takes) no_call w x n

pub returns-in-Ready-Ok-clause-going : goal.returns-in-Ready-Ok-clause-going
returns-in-Ready-Ok-clause-going g c = λ bytes going. record { fed = going.fed; at = going.at.0 }

pub returns-in-Ready-Err-clause-broke : goal.returns-in-Ready-Err-clause-broke
returns-in-Ready-Err-clause-broke g c = λ w p h x n f.
    gives_up_written p c.args.self.now _ h c.args.text c.args.at c.write_on.new.at _ _ _ _ f c.requires.going.1.at.0 c.write_on.ensures.later refl
    c.write_on.ensures.unread (rw c.bytes.ensures at c.write_on.ensures.takes) no_call w x n

pub returns-clause-goes : goal.returns-clause-goes
returns-clause-goes g c = λ w p h x n f.
    goes_written p c.args.self.now _ h c.args.text c.args.at c.write_on.new.at _ _ _ _ f c.write_on.ensures.later refl refl (λ unasked. unasked)
    c.write_on.ensures.unread (rw c.bytes.ensures at c.write_on.ensures.takes) no_call w x n

pub returns-clause-going : goal.returns-clause-going
returns-clause-going g c = λ bytes going. record { fed = going.fed; at = (going.at.0, rw c.bytes.ensures at c.write_on.ensures.within) }

pub returns-in-Ready-Ok-clause-link : goal.returns-in-Ready-Ok-clause-link
returns-in-Ready-Ok-clause-link g c =
    record { unread = c.write_on.ensures.unread; unended = c.write_on.ensures.unended; unmarked = c.write_on.ensures.unmarked; same = c.write_on.ensures.same; later = c.write_on.ensures.counts.later; unread_waits = c.write_on.ensures.unwaited; write_waits = c.write_on.ensures.waits.later }

pub returns-in-Ready-Err-clause-link : goal.returns-in-Ready-Err-clause-link
returns-in-Ready-Err-clause-link g c =
    record { unread = c.write_on.ensures.unread; unended = c.write_on.ensures.unended; unmarked = c.write_on.ensures.unmarked; same = c.write_on.ensures.same; later = c.write_on.ensures.counts.later; unread_waits = c.write_on.ensures.unwaited; write_waits = c.write_on.ensures.waits.later }

pub returns-clause-link : goal.returns-clause-link
returns-clause-link g c =
    record { unread = c.write_on.ensures.unread; unended = c.write_on.ensures.unended; unmarked = c.write_on.ensures.unmarked; same = c.write_on.ensures.same; later = c.write_on.ensures.counts.later; unread_waits = c.write_on.ensures.unwaited; write_waits = c.write_on.ensures.waits.later }
