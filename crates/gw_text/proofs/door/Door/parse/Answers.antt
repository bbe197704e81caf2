use Rattle.std.proofs.Common.{rules}
use Rattle.gw_text.specs.model.Doors.{door_of}
use Rattle.gw_text.proofs.door.Door.parse.Goals as goal

pub returns-in_err-gateway : goal.returns-in_err-gateway
unfolding door_of
returns-in_err-gateway c = rw (← c.around.ensures.after, ← c.around.ensures.before, ← c.around-2.ensures.after, ← c.around-2.ensures.before, ← c.in-Some.ensures, ← c.in-Some-loopback_of.ensures) (search rules)

pub returns : goal.returns
unfolding door_of
returns c = rw (← c.around.ensures.after, ← c.around.ensures.before, ← c.around-2.ensures.after, ← c.around-2.ensures.before, ← c.in-Some.ensures, ← c.in-Some-loopback_of.ensures, c.in_ok-gateway.ensures.value)
