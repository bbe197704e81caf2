-- The text is that of the door.
use Rattle.gw_generate.proofs.Doors.{door_is}
use Rattle.gw_generate.proofs.door.script_door.Goals as goal

pub returns-in-Ok : goal.returns-in-Ok
returns-in-Ok c = cc (c.in-Ok.ensures, door_is)
