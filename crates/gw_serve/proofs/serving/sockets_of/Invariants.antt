-- As many sockets as doors so far, and room for all.
use Rattle.std.proofs.Common.{◌≡◌, ◌≤◌, length, vec_len, vec_capacity}
use Rattle.gw_serve.proofs.serving.sockets_of.Given as goal

abbrev pub invariant-doors : goal.invariant-doors
invariant-doors l = (vec_len l.sockets ≡ l.door-index) × (length l.doors ≤ vec_capacity l.sockets)
