-- The door of a script as a word names it.
use Rattle.std.proofs.Common.{◌≡◌, refl, codes, Some}
use Rattle.gw_text.specs.model.Doors.{door_of, listener_port_of, loopback_of}
use Rattle.gw_text.specs.model.Addresses.{ipv4_of, number_up_to, socket_of}
use Rattle.gw_generate.specs.Doors.{script_door}

pub door_is : door_of (codes "default/g:80=127.0.0.1:18080") ≡ Some script_door
unfolding door_of listener_port_of loopback_of socket_of ipv4_of number_up_to
door_is = refl
