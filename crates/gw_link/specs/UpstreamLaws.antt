-- An upstream in memory over several calls.
use Rattle.std.proofs.Common.{◌≡◌, ℕ, ◌+◌, ◌<◌, ◌≤◌, ◌∙◌, Bool, true, false, List, [], ◌∷◌, ◌++◌, length, take, min, Option, Some, None, refl, sym, subst, inl, inr, ap, arith, cond, nat_lt}
use Rattle.gw_text.specs.model.Addresses.{Socket}
use Rattle.gw_link.specs.Exchanges.{change_last, new_exchange, receiving, sending}
use Rattle.gw_link.specs.Faults.{HasRisen, one_more}
use Rattle.gw_link.specs.Upstreams.{UpstreamState, Becomes, Refuses, stays, connects, sends, receives, closes, after_call, after_connect, after_send, after_receive, fails_at, is_failing_to, next_piece}
use Rattle.gw_link.specs.declared.order.Order.{Order}
use Rattle.gw_link.specs.declared.order.UpstreamCall.{UpstreamCall}
use Rattle.gw_link.specs.declared.order.UpstreamCall.TheVariants.{Connect, Send, Receive}

-- No call was made.
pub becomes_self : (a : UpstreamState) → Becomes a a
becomes_self a = stays refl

-- Calls, and then more calls.
pub becomes_then : (a b c : UpstreamState) → Becomes a b → Becomes b c → Becomes a c
becomes_then a b c first (stays is) = subst (λ (up : UpstreamState). Becomes a up) (sym is) first
becomes_then a b c first (connects {b = d} to is_done more is) = connects to is_done (becomes_then a b d first more) is
becomes_then a b c first (sends {b = d} piece is_done more at is) = sends piece is_done (becomes_then a b d first more) at is
becomes_then a b c first (receives {b = d} size is_done more at some is) = receives size is_done (becomes_then a b d first more) at some is
becomes_then a b c first (closes {b = d} more is) = closes (becomes_then a b d first more) is

-- What no call changes: what the backends do, the most that a call takes or gives, and which calls fail by their number. The count of
-- calls that wanted memory never falls.
pub record IsKept (a b : UpstreamState) : Type 0 where
  pub orders : b.orders ≡ a.orders
  pub most : b.most ≡ a.most
  pub fails : b.calls.fails ≡ a.calls.fails
  pub starved : a.starved ≤ b.starved

kept_itself : (a b : UpstreamState) → b ≡ a → IsKept a b
kept_itself a b is = record {
  orders = ap (λ (u : UpstreamState). u.orders) is;
  most = ap (λ (u : UpstreamState). u.most) is;
  fails = ap (λ (u : UpstreamState). u.calls.fails) is;
  starved = omega (arith, ap (λ (u : UpstreamState). u.starved) is);
}

kept_then : (a b c : UpstreamState) → IsKept a b → IsKept b c → IsKept a c
kept_then a b c first second = record {
  orders = second.orders ∙ first.orders;
  most = second.most ∙ first.most;
  fails = second.fails ∙ first.fails;
  starved = omega (arith, first.starved, second.starved);
}

more_by_one : (count : ℕ) → count ≤ one_more count
more_by_one count = by (nat_lt count 18446744073709551615)
  where
    by : (below : Bool) → count ≤ cond below (count + 1) count
    by true = omega arith
    by false = omega arith

-- A call that fails, is done or is refused the memory, where what is done changes neither.
kept_call : (fails is_done : Bool) (a done up : UpstreamState) → IsKept a done → IsKept a up → IsKept a (after_call fails is_done done up)
kept_call true is_done a done up d u = record { orders = u.orders; most = u.most; fails = u.fails; starved = u.starved }
kept_call false true a done up d u = record { orders = d.orders; most = d.most; fails = u.fails; starved = d.starved }
kept_call false false a done up d u = record { orders = u.orders; most = u.most; fails = u.fails; starved = omega (arith, u.starved, more_by_one up.starved) }

kept_connect : (to : Socket) (is_done : Bool) (b : UpstreamState) → IsKept b (after_connect to is_done b)
kept_connect to is_done b =
    kept_call (is_failing_to Connect (Some to) b) is_done b
    (record b { exchanges = b.exchanges ++ new_exchange to ∷ []; at = Some to; got = 0 }) (record b { at = None })
    (record { orders = refl; most = refl; fails = refl; starved = omega arith })
    (record { orders = refl; most = refl; fails = refl; starved = omega arith })

kept_send : (piece : List ℕ) (is_done : Bool) (b : UpstreamState) → IsKept b (after_send piece is_done b)
kept_send piece is_done b =
    kept_call (is_failing_to Send b.at b) is_done b
    (record b { exchanges = change_last (sending (take (min (length piece) b.most) piece)) b.exchanges }) b
    (record { orders = refl; most = refl; fails = refl; starved = omega arith })
    (record { orders = refl; most = refl; fails = refl; starved = omega arith })

kept_receive : (size : ℕ) (is_done : Bool) (b : UpstreamState) → IsKept b (after_receive size is_done b)
kept_receive size is_done b =
    kept_call (is_failing_to Receive b.at b) is_done b
    (record b { exchanges = change_last (receiving (next_piece size b)) b.exchanges; got = b.got + length (next_piece size b) }) b
    (record { orders = refl; most = refl; fails = refl; starved = omega arith })
    (record { orders = refl; most = refl; fails = refl; starved = omega arith })

-- Any calls keep these.
pub kept_by : (a b : UpstreamState) → Becomes a b → IsKept a b
kept_by a b (stays is) = kept_itself a b is
kept_by a c (connects {b = d} to is_done more is) =
    kept_then a d c (kept_by a d more) (subst (IsKept d) (sym is) (kept_connect to is_done d))
kept_by a c (sends {b = d} piece is_done more at is) =
    kept_then a d c (kept_by a d more) (subst (IsKept d) (sym is) (kept_send piece is_done d))
kept_by a c (receives {b = d} size is_done more at some is) =
    kept_then a d c (kept_by a d more) (subst (IsKept d) (sym is) (kept_receive size is_done d))
kept_by a c (closes {b = d} more is) =
    kept_then a d c (kept_by a d more)
    (subst (IsKept d) (sym is) (record { orders = refl; most = refl; fails = refl; starved = omega arith }))

-- A call that failed behind others.
pub refuses_later : (a b c : UpstreamState) (call : UpstreamCall) (to : Socket) → Becomes a b → Refuses b c call to → Refuses a c call to
refuses_later a b c call to goes refused =
    let kept : IsKept a b = kept_by a b goes in
    by refused kept
  where
    by : Refuses b c call to → IsKept a b → Refuses a c call to
    by (inl fails) kept = inl (subst (λ (orders : List Order). fails_at call to orders ≡ true) kept.orders fails)
    by (inr (inl listed)) kept = inr (inl (subst (λ (fails : List ℕ). 0 < length fails) kept.fails listed))
    by (inr (inr (inl rose))) kept = inr (inr (inl (omega (arith, kept.starved))))
    by (inr (inr (inr full))) kept = inr (inr (inr full))

-- A call that failed before others.
pub refuses_still : (a b c : UpstreamState) (call : UpstreamCall) (to : Socket) → Refuses a b call to → Becomes b c → Refuses a c call to
refuses_still a b c call to (inl fails) goes = inl fails
refuses_still a b c call to (inr (inl listed)) goes = inr (inl listed)
refuses_still a b c call to (inr (inr (inl rose))) goes = inr (inr (inl (omega (arith, (kept_by b c goes).starved))))
refuses_still a b c call to (inr (inr (inr full))) goes = inr (inr (inr (omega (arith, (kept_by b c goes).starved))))
