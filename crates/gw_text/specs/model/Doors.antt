-- Doors: where the host takes connections for the listeners of its Gateways. They are given once, in words, and aren't
-- objects of the Gateway API; which port of which host a listener gets is left to each implementation there.
use Rattle.std.specs.Prelude.{ℕ, List, [], ◌∷◌, Bool, false, ◌&&◌, ◌||◌, ◌==◌, not, nat_lt, if◌then◌else◌, length, find, Option, Some, None}
use Rattle.std.specs.List.{list_any, before_first, after_first}
use Rattle.gw_text.specs.model.Addresses.{Socket, is_colon, port_of, socket_of}
use Rattle.gw_text.specs.model.Chains.{◌>>=◌}
use Rattle.gw_text.specs.model.Forms.{key_of}
use Rattle.gw_text.specs.model.Names.{Key, same_key}

-- A Gateway, the port of its listeners, and the socket at which connections to that port come.
pub record Door : Type 0 where
  pub gateway : Key
  pub port : ℕ
  pub at : Socket

-- A port that a listener may have: 1 to 65535. Source: PortNumber of the Gateway API reference.
unfoldable pub listener_port_of : List ℕ → Option ℕ
listener_port_of t = do
  port ← port_of t
  if port == 0 then None else Some port

-- A socket of the host itself: its address is in 127.0.0.0/8. Source: RFC 1122 section 3.2.1.3, case (g).
unfoldable pub loopback_of : List ℕ → Option Socket
loopback_of t = do
  socket ← socket_of t
  if socket.a == 127 then Some socket else None

-- The sign between a listener and its socket.
abbrev pub is_equals : ℕ → Bool
is_equals b = b == 61

-- The door that a text `namespace/name:port=a.b.c.d:port` names.
unfoldable pub door_of : List ℕ → Option Door
door_of t =
    let listener = before_first is_equals t in do
      port ← listener_port_of (after_first is_colon listener)
      at ← loopback_of (after_first is_equals t)
      gateway ← key_of (before_first is_colon listener)
      Some (record { gateway = gateway; port = port; at = at })

-- Some two doors, at different places of the list, are so to one another.
abbrev pub some_two : (Door → Door → Bool) → List Door → Bool
some_two so [] = false
some_two so (d ∷ doors) = list_any (so d) doors || some_two so doors

-- The same four numbers.
abbrev pub same_address : Socket → Socket → Bool
same_address s t = s.a == t.a && s.b == t.b && s.c == t.c && s.d == t.d

-- The same address and port.
abbrev pub same_socket : Socket → Socket → Bool
same_socket s t = same_address s t && s.port == t.port

-- Both are of one Gateway, and their addresses differ.
abbrev pub have_two_addresses : Door → Door → Bool
have_two_addresses c d = same_key c.gateway d.gateway && not (same_address c.at d.at)

-- Both are of one Gateway and one listener port, or have one socket.
abbrev pub are_one_door : Door → Door → Bool
are_one_door c d = same_key c.gateway d.gateway && c.port == d.port || same_socket c.at d.at

-- What doors may do wrong.
pub data DoorFault : Type 0 where
  too_many_doors : DoorFault
  two_addresses : DoorFault
  door_twice : DoorFault

-- The first rule that doors break: there are at most 64, those of one Gateway have one address, and none is there twice.
unfoldable pub door_fault : List Door → Option DoorFault
door_fault doors =
    if nat_lt 64 (length doors) then Some too_many_doors
    else (if some_two have_two_addresses doors then Some two_addresses
    else (if some_two are_one_door doors then Some door_twice
    else None))

-- The first door of a Gateway, in the order in which the doors were given.
abbrev pub first_door : Key → List Door → Option Door
first_door gateway = find (λ d. same_key d.gateway gateway)

-- Some door of the Gateway is for this listener port.
abbrev pub has_port : Key → ℕ → List Door → Bool
has_port gateway port = list_any (λ d. same_key d.gateway gateway && d.port == port)
