-- The door of a script.
use Rattle.std.specs.Prelude.{codes}
use Rattle.gw_text.specs.model.Doors.{Door}

-- The door for the one listener of the script's Gateway: `default/g:80=127.0.0.1:18080`.
abbrev pub script_door : Door
script_door = record {
  gateway = record { namespace = codes "default"; name = codes "g" };
  port = 80;
  at = record { a = 127; b = 0; c = 0; d = 1; port = 18080 };
}
