-- Addresses of IPv4, and their text of four numbers with dots between them. Source: RFC 1123 section 2.1, dotted-decimal.
-- An address with a port is written as the authority of RFC 3986 section 3.2: the address, `:` and the port's number.
use Rattle.std.specs.Prelude.{ℕ, List, [], ◌∷◌, ◌++◌, length, slice_index, Bool, ◌&&◌, ◌||◌, ◌==◌, not, bytes_eq, if◌then◌else◌, nat_le, codes, Option, Some, None}
use Rattle.std.specs.Char.{is_ascii_digit}
use Rattle.std.specs.Fmt.{decimal}
use Rattle.std.specs.List.{list_all, slice_split, before_first, after_first}
use Rattle.std.specs.Str.Parse.{digits_value}
use Rattle.std.specs.Net.Addr.{ipv4_octets}
use Rattle.std.specs.Net.Text.{dotted_text}
use Rattle.std.specs.declared.net.ipv4_addr.Ipv4Addr.{Ipv4Addr}
use Rattle.gw_text.specs.model.Chains.{◌>>=◌}
use Rattle.gw_text.specs.model.Forms.{is_dot}

-- A digit that may stand first in a number of several digits: 1 to 9.
abbrev pub is_leading : ℕ → Bool
is_leading b = is_ascii_digit b && not (b == 48)

-- A text of decimal digits, without a leading zero where there are several.
abbrev pub is_decimal : List ℕ → Bool
is_decimal t = list_all is_ascii_digit t && (length t == 1 || is_leading (slice_index t 0))

-- The number that a text writes in decimal digits, where it is at most the limit.
unfoldable pub number_up_to : ℕ → List ℕ → Option ℕ
number_up_to limit t = if is_decimal t && nat_le (digits_value 10 t) limit then Some (digits_value 10 t) else None

-- The number from 0 to 255 that a text writes.
abbrev pub octet_of : List ℕ → Option ℕ
octet_of = number_up_to 255

-- The address that four parts write.
abbrev pub written_in : List (List ℕ) → Option Ipv4Addr
written_in (a ∷ b ∷ c ∷ d ∷ []) = do
  a ← octet_of a
  b ← octet_of b
  c ← octet_of c
  d ← octet_of d
  Some (record { octets = a ∷ b ∷ c ∷ d ∷ [] })
written_in _ = None

-- The address that a text writes: four numbers, with dots between them.
unfoldable pub ipv4_of : List ℕ → Option Ipv4Addr
ipv4_of t = written_in (slice_split is_dot t)

-- Both are the same address.
abbrev pub same_ipv4 : Ipv4Addr → Ipv4Addr → Bool
same_ipv4 x y = bytes_eq (ipv4_octets x) (ipv4_octets y)

-- An address and a port of it.
pub record Socket : Type 0 where
  pub a : ℕ
  pub b : ℕ
  pub c : ℕ
  pub d : ℕ
  pub port : ℕ

-- A colon, which stands before a port.
abbrev pub is_colon : ℕ → Bool
is_colon b = b == 58

-- The port that a text writes: a number from 0 to 65535. Source: RFC 9293 section 3.1, whose ports have 16 bits.
abbrev pub port_of : List ℕ → Option ℕ
port_of = number_up_to 65535

-- One of an address's four numbers.
abbrev pub octet_at : ℕ → Ipv4Addr → ℕ
octet_at n address = slice_index (ipv4_octets address) n

-- The port at the address.
abbrev pub socket_at : Ipv4Addr → ℕ → Socket
socket_at address port =
    record { a = octet_at 0 address; b = octet_at 1 address; c = octet_at 2 address; d = octet_at 3 address; port = port }

-- The address of a socket.
abbrev pub address_of : Socket → Ipv4Addr
address_of s = record { octets = s.a ∷ s.b ∷ s.c ∷ s.d ∷ [] }

-- The socket that a text `a.b.c.d:port` names.
unfoldable pub socket_of : List ℕ → Option Socket
socket_of t = do
  port ← port_of (after_first is_colon t)
  address ← ipv4_of (before_first is_colon t)
  Some (socket_at address port)

-- The text of a socket's address alone.
abbrev pub address_text : Socket → List ℕ
address_text s = dotted_text s.a s.b s.c s.d

-- The text of a socket.
abbrev pub socket_text : Socket → List ℕ
socket_text s = address_text s ++ codes ":" ++ decimal s.port
