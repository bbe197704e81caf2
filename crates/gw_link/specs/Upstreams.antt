-- What an upstream in memory is, and what each of its calls does.
use Rattle.std.specs.Prelude.{◌≡◌, ℕ, ◌+◌, ◌<◌, ◌⊎◌, ◌||◌, ◌&&◌, Bool, true, false, if◌then◌else◌, min, List, [], ◌∷◌, ◌++◌, length, take, drop, fold, codes, Option, Some, None, is_some}
use Rattle.std.specs.Fmt.{decimal}
use Rattle.gw_text.specs.model.Addresses.{Socket, socket_text}
use Rattle.gw_text.specs.model.Doors.{same_socket}
use Rattle.gw_link.specs.Faults.{HasRisen, one_more}
use Rattle.gw_link.specs.Memory.{Calls, is_failing, after_pass, after_fail}
use Rattle.gw_link.specs.Exchanges.{Exchange, new_exchange, sending, receiving, change_last}
use Rattle.gw_link.specs.declared.order.UpstreamCall.{UpstreamCall}
use Rattle.gw_link.specs.declared.order.UpstreamCall.TheVariants.{Connect, Send, Receive}
use Rattle.gw_link.specs.declared.order.Order.{Order}
use Rattle.gw_link.specs.declared.order.Order.TheVariants.{Answers, Fails}

-- The two are one call.
abbrev pub same_call : UpstreamCall → UpstreamCall → Bool
same_call Connect Connect = true
same_call Send Send = true
same_call Receive Receive = true
same_call a b = false

-- Whether a call fails at a socket after an order: one to fail it there, until there is an answer for the socket.
abbrev pub fails_after : UpstreamCall → Socket → Bool → Order → Bool
fails_after call to fails (Answers at text) = if same_socket at to then false else fails
fails_after call to fails (Fails at other) = fails || (same_socket at to && same_call other call)

-- Whether the call fails at a socket after all these orders.
abbrev pub fails_at : UpstreamCall → Socket → List Order → Bool
fails_at call to orders = fold (fails_after call to) false orders

-- What a socket without an answer gives: a response whose body is the socket's own text.
abbrev pub own_answer : Socket → List ℕ
own_answer to =
    codes "HTTP/1.1 200 OK\r\ncontent-length: " ++ decimal (length (socket_text to)) ++ codes "\r\n\r\n" ++ socket_text to

-- What a socket gives after an order.
abbrev pub answer_after : Socket → List ℕ → Order → List ℕ
answer_after to answer (Answers at text) = if same_socket at to then text.items else answer
answer_after to answer (Fails at other) = answer

-- What a socket gives after all these orders: the bytes of the last one for it.
abbrev pub answer_at : Socket → List Order → List ℕ
answer_at to orders = fold (answer_after to) (own_answer to) orders

-- An upstream in memory.
pub record UpstreamState : Type 0 where
  -- what its backends do, in the order in which that was said
  pub orders : List Order
  pub exchanges : List Exchange
  -- where it is connected, and how many bytes that connection has given
  pub at : Option Socket
  pub got : ℕ
  -- the most that one `send` takes and one `receive` gives, which is not 0
  pub most : ℕ
  -- how many calls failed for want of memory
  pub starved : ℕ
  pub calls : Calls

-- The next call fails by its number, or is one that fails at this socket.
abbrev pub is_failing_to : UpstreamCall → Option Socket → UpstreamState → Bool
is_failing_to call None up = is_failing up.calls
is_failing_to call (Some to) up = is_failing up.calls || fails_at call to up.orders

-- What is left of the answer of the connection.
abbrev pub answer_left : Option Socket → UpstreamState → List ℕ
answer_left None up = []
answer_left (Some to) up = drop up.got (answer_at to up.orders)

-- What a `receive` into a buffer of this size gives.
abbrev pub next_piece : ℕ → UpstreamState → List ℕ
next_piece size up = take (min size up.most) (answer_left up.at up)

-- After a call that fails where `fails` is true, and else is done, or is refused the memory.
abbrev pub after_call : Bool → Bool → UpstreamState → UpstreamState → UpstreamState
after_call fails is_done done up =
    if fails then record up { calls = after_fail up.calls }
    else (if is_done then record done { calls = after_pass up.calls }
    else record up { starved = one_more up.starved; calls = after_fail up.calls })

-- After `connect`. One that failed leaves no connection.
abbrev pub after_connect : Socket → Bool → UpstreamState → UpstreamState
after_connect to is_done up =
    after_call (is_failing_to Connect (Some to) up) is_done
    (record up { exchanges = up.exchanges ++ new_exchange to ∷ []; at = Some to; got = 0 }) (record up { at = None })

-- After a `send` of this piece, of which its front is taken.
abbrev pub after_send : List ℕ → Bool → UpstreamState → UpstreamState
after_send piece is_done up =
    after_call (is_failing_to Send up.at up) is_done
    (record up { exchanges = change_last (sending (take (min (length piece) up.most) piece)) up.exchanges }) up

-- After a `receive` into a buffer of this size.
abbrev pub after_receive : ℕ → Bool → UpstreamState → UpstreamState
after_receive size is_done up =
    after_call (is_failing_to Receive up.at up) is_done
    (record up { exchanges = change_last (receiving (next_piece size up)) up.exchanges; got = up.got + length (next_piece size up) }) up

-- After `close`.
abbrev pub after_close : UpstreamState → UpstreamState
after_close up = record up { at = None }

-- Calls, one after another, make the second of the first. A `send` and a `receive` have a connection, and no buffer is empty.
pub data Becomes : UpstreamState → UpstreamState → Type 0 where
  stays : {a b : UpstreamState} → b ≡ a → Becomes a b
  connects : {a b c : UpstreamState} (to : Socket) (is_done : Bool) → Becomes a b → c ≡ after_connect to is_done b → Becomes a c
  sends : {a b c : UpstreamState} (piece : List ℕ) (is_done : Bool) → Becomes a b → is_some b.at ≡ true → c ≡ after_send piece is_done b
      → Becomes a c
  receives : {a b c : UpstreamState} (size : ℕ) (is_done : Bool) → Becomes a b → is_some b.at ≡ true → 0 < size
      → c ≡ after_receive size is_done b → Becomes a c
  closes : {a b c : UpstreamState} → Becomes a b → c ≡ after_close b → Becomes a c

-- Between the two such a call failed at the socket: it is one that fails there; or calls fail by their number; or memory was wanted.
abbrev pub Refuses : UpstreamState → UpstreamState → UpstreamCall → Socket → Type 0
Refuses a b call to = (fails_at call to a.orders ≡ true) ⊎ ((0 < length a.calls.fails) ⊎ HasRisen a.starved b.starved)
