-- An exchange that was made is new.
use Rattle.std.proofs.Common.{refl, subst, sym}
use Rattle.gw_poll_exchange.specs.Polled.{IsJoined}
use Rattle.gw_poll_exchange.specs.declared.polled.Stage.{Stage}
use Rattle.gw_poll.specs.Courses.{IsNew}
use Rattle.gw_poll.proofs.course.Course.begin.Goals as goal

pub returns-in-Exchange-clause-begun : goal.returns-in-Exchange-clause-begun
returns-in-Exchange-clause-begun c =
    let x = c.new-exchange.result in
    let made = c.new-exchange.ensures in
    let new : IsNew x c.in-Exchange.to c.in-Exchange.bytes c.in-Exchange.head = record {
      to_is = made.to;
      bytes_are = made.bytes;
      head_is = made.head;
      stands = made.stands;
      joined = λ at. subst (λ (stage : Stage). IsJoined stage at x.to) (sym made.connecting) tt;
    } in
    rw c.in-Exchange.is ((x, new, refl), refl)
