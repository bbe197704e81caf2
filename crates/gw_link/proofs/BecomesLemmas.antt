-- One call of an upstream in memory.
use Rattle.std.proofs.Common.{◌≡◌, ℕ, ◌<◌, Bool, true, List, refl, is_some}
use Rattle.gw_text.specs.model.Addresses.{Socket}
use Rattle.gw_link.specs.Upstreams.{UpstreamState, after_connect, after_send, after_receive, after_close, Becomes, stays, connects, sends, receives, closes}

pub becomes_connect : (a b : UpstreamState) (to : Socket) (is_done : Bool) → b ≡ after_connect to is_done a → Becomes a b
becomes_connect a b to is_done is = connects to is_done (stays refl) is

pub becomes_send : (a b : UpstreamState) (piece : List ℕ) (is_done : Bool) → is_some a.at ≡ true → b ≡ after_send piece is_done a → Becomes a b
becomes_send a b piece is_done at is = sends piece is_done (stays refl) at is

pub becomes_receive : (a b : UpstreamState) (size : ℕ) (is_done : Bool) → is_some a.at ≡ true → 0 < size → b ≡ after_receive size is_done a → Becomes a b
becomes_receive a b size is_done at some is = receives size is_done (stays refl) at some is

pub becomes_close : (a b : UpstreamState) → b ≡ after_close a → Becomes a b
becomes_close a b is = closes (stays refl) is
