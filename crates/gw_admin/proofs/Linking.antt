-- What a link's bytes make of a connection.
use Rattle.std.proofs.Common.{◌≡◌, ◌∙◌, ◌<◌, ◌≤◌, ◌==◌, ℕ, Bool, true, false, List, [], ◌∷◌, length, take, Option, Some, None, refl, ap, subst, arith}
use Rattle.std.proofs.lemmas.List.{length-take-le}
use Rattle.gw_frames.specs.declared.ended.Ended.TheVariants.{Closed}
use Rattle.gw_frames.specs.model.Requests.{Asks, Step, a_head, ended}
use Rattle.gw_link.proofs.KeptLemmas.{takes_kept}
use Rattle.gw_link.specs.Pieces.{Keeps}
use Rattle.gw_message_laws.proofs.Limits.{open_limit}
use Rattle.gw_message_laws.specs.declared.requests.TheConstants.{MOST_OPEN_BYTES}
use Rattle.gw_message_laws.proofs.Ends.{over_ends}
use Rattle.gw_admin.specs.Conns.{Outside, Turned, outside}
use Rattle.gw_admin.specs.declared.conn.Conn.{Conn}
use Rattle.gw_admin.specs.declared.conn.Flow.{Flow}
use Rattle.gw_admin.specs.declared.conn.Flow.TheVariants.{More}
use Rattle.gw_admin.specs.Serving.{HasBroken, HasServed, Ran, Stopped}
use Rattle.gw_admin.specs.declared.serve.AdminSession.{AdminSession}
use Rattle.gw_admin.specs.model.Sessions.{Part, Place}
use Rattle.gw_admin.proofs.Turning.{no_bytes}

-- no bytes are the end
pub empty_size : (n : ℕ) (buffer : List ℕ) → n ≤ length buffer → (length (take n buffer) == 0) ≡ true → n ≡ 0
empty_size n buffer within is =
    let none : length (take n buffer) ≡ 0 = ap length (no_bytes (take n buffer) is) in
    omega (arith, none, length-take-le n buffer within)

-- where nothing was written
pub turned_kept : (p : Place) (c : Conn) (over : Bool) (bytes : List ℕ) (parts : List Part) (o m : Outside) (told : Option (List ℕ)) (flow : Option Flow)
    → Turned p c over bytes parts o m flow → Keeps m.written told → Turned p c over bytes parts o (outside m.seen m.moments told) flow
turned_kept p c over bytes parts o m told flow t kept = record {
  more = t.more;
  stands = t.stands;
  adds = record { answered = t.adds.answered; ticks = t.adds.ticks; wrote = takes_kept o.written m.written told _ t.adds.wrote kept };
  flows = t.flows;
}

-- a connection that needs more bytes hasn't ended
pub turned_open : (p : Place) (c : Conn) (over over' : Bool) (bytes : List ℕ) (parts : List Part) (o o' : Outside)
    → Turned p c over bytes parts o o' (Some More) → Turned p c over' bytes parts o o' None
turned_open p c over over' bytes parts o o' t = record { more = t.more; stands = t.stands; adds = t.adds; flows = t.flows.0 }

-- not all of its bytes have come
pub open_still : (over : Bool) (bytes : List ℕ) (steps : List Step) → Asks a_head 0 bytes over steps → ended steps ≡ None → over ≡ false
open_still false bytes steps asks none = refl
open_still true bytes steps asks none = absurd (over_ends asks refl Closed none)

-- and there are no more so far than a connection has that hasn't ended
pub few_still : (over : Bool) (bytes : List ℕ) (steps : List Step) → Asks a_head 0 bytes over steps → ended steps ≡ None → length bytes ≤ MOST_OPEN_BYTES
few_still over bytes steps asks none = open_limit bytes steps (subst (λ (b : Bool). Asks a_head 0 bytes b steps) (open_still over bytes steps asks none) asks) none

-- a connection that ran to its end
pub has_served : (p : Place) (c : Conn) (session : AdminSession) (left left' : Option (List ℕ)) (o o' : Outside) → Ran p c left left' o o' session.ended → session.asks ≡ c.asks
    → HasServed p session left left' o o'
has_served p c session left left' o o' r asks = record {
  bytes = r.bytes;
  over = r.over;
  parts = r.turned.more;
  taken = r.taken;
  few = r.few;
  came = r.came;
  is_all = r.turned.flows.1;
  ends = r.turned.flows.0;
  asks = asks ∙ r.turned.stands.asks;
  adds = r.turned.adds;
}

-- a connection that was given up
pub has_broken : (p : Place) (c : Conn) (left left' : Option (List ℕ)) (o o' : Outside) → Stopped p c left left' o o' → HasBroken p left left' o o'
has_broken p c left left' o o' s = record {
  bytes = s.bytes;
  fed = s.broke.fed;
  inlet = c.inlet;
  parts = s.broke.more;
  further = s.broke.further;
  taken = s.taken;
  few = s.few;
  begins = s.broke.begins;
  single = s.broke.single;
  first = s.broke.inlet;
  leaves = s.broke.leaves;
}

pub some_bytes : (xs : List ℕ) → (length xs == 0) ≡ false → 0 < length xs
some_bytes [] is = absurd (cc is)
some_bytes (x ∷ xs) is = omega arith
