-- What a call answers that takes doors.
use Rattle.std.specs.Prelude.{Option, Some, None}
use Rattle.gw_text.specs.declared.doors.DoorFault.{DoorFault}
use Rattle.gw_text.specs.declared.doors.DoorFault.TheVariants.{TooManyDoors, TwoAddresses, DoorTwice, NoMemory}
use Rattle.gw_text.specs.model.Doors as doors

-- The rule that a fault says was broken; want of memory breaks none.
abbrev pub seen : DoorFault → Option doors.DoorFault
seen TooManyDoors = Some doors.too_many_doors
seen TwoAddresses = Some doors.two_addresses
seen DoorTwice = Some doors.door_twice
seen NoMemory = None
