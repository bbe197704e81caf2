-- What becomes of an acceptor's next link.
use Rattle.std.specs.Prelude.{◌≡◌, ℕ, List, Option, Some, None}
use Rattle.gw_edge.specs.Accepting.{Closes, GivesNext, Told}
use Rattle.gw_edge.specs.declared.next.Next.{Next}
use Rattle.gw_edge.specs.declared.next.Next.TheVariants as nexts
use Rattle.gw_link.specs.Exchanges.{Exchange}
use Rattle.gw_link.specs.Faults.{HasRisen}
use Rattle.gw_link.specs.Pieces.{Keeps}
use Rattle.gw_link.specs.declared.order.UpstreamCall.{UpstreamCall}
use Rattle.gw_text.specs.model.Addresses.{Socket}
use Rattle.gw_worker.specs.Faults.{CountsRefused}
use Rattle.gw_worker.specs.Flows.{Outside, outside}
use Rattle.gw_worker.specs.Links.{HasBroken, HasServed}
use Rattle.gw_worker.specs.Workers.{IsAt}
use Rattle.gw_worker.specs.declared.serve.Broken.{Broken}
use Rattle.gw_worker.specs.declared.serve.Session.{Session}
use Rattle.gw_worker.specs.model.Sessions.{Place}
use Rattle.gw_worker.specs.model.Workers.{Worker}

-- What is told of an acceptor and an upstream: the links to come, those that were closed, and how many calls of the acceptor failed; the
-- exchanges, and how many calls of the upstream failed.
pub record Around : Type 0 where
  pub coming : Option (List Told)
  pub closed : Option (List Told)
  pub unaccepted : ℕ
  pub exchanges : Option (List Exchange)
  pub faults : ℕ

abbrev pub around : Option (List Told) → Option (List Told) → ℕ → Option (List Exchange) → ℕ → Around
around coming closed unaccepted exchanges faults = record {
  coming = coming;
  closed = closed;
  unaccepted = unaccepted;
  exchanges = exchanges;
  faults = faults;
}

-- The upstream, beside a link.
abbrev pub beside : Told → Around → Outside
beside link a = outside link.written a.exchanges a.faults

-- The first of the links to come was accepted. It is now the last of those that were closed, and tells what it tells then.
pub record Passed (a a' : Around) (link link' : Told) : Type 0 where
  pub next : GivesNext a.coming (Some link) a'.coming
  pub closed : Closes a.closed link' a'.closed

-- No link was accepted, and nothing was done.
pub record Rested (w w' : Worker) (a a' : Around) : Type 0 where
  pub worker : w' ≡ w
  pub closed : Keeps a.closed a'.closed
  pub exchanges : a'.exchanges ≡ a.exchanges
  pub faults : a'.faults ≡ a.faults

-- A connection that was served to its end, over a link that was accepted and closed.
pub record Serves (refuses : UpstreamCall → Socket → Type 0) (door : ℕ) (w w' : Worker) (a a' : Around) (session : Session) : Type 0 where
  pub link : Told
  pub link' : Told
  pub passed : Passed a a' link link'
  pub served : (p : Place) → IsAt w p → p.door ≡ door → HasServed refuses p w w' session.rows session.ended link.left link'.left (beside link a) (beside link' a')

-- A connection that was given up, over a link that was accepted and closed.
pub record GivesUp (refuses : UpstreamCall → Socket → Type 0) (door : ℕ) (w w' : Worker) (a a' : Around) (broken : Broken) : Type 0 where
  pub link : Told
  pub link' : Told
  pub passed : Passed a a' link link'
  pub broke : (p : Place) → IsAt w p → p.door ≡ door → HasBroken refuses p w w' broken.rows link.left link'.left (beside link a) (beside link' a')

-- What becomes of the next link: none was left; it couldn't be accepted, which is counted; or its connection was served, or given up.
abbrev pub IsNext : (UpstreamCall → Socket → Type 0) → ℕ → Worker → Worker → Around → Around → Next Session Broken → Type 0
IsNext refuses door w w' a a' nexts.Done = GivesNext a.coming None a'.coming × Rested w w' a a'
IsNext refuses door w w' a a' nexts.Failed = HasRisen a.unaccepted a'.unaccepted × (Keeps a.coming a'.coming × Rested w w' a a')
IsNext refuses door w w' a a' (nexts.Whole session) = Serves refuses door w w' a a' session
IsNext refuses door w w' a a' (nexts.Broke broken) = GivesUp refuses door w w' a a' broken

-- A reading that was refused is counted by the pass where the connection was given up for it, and nowhere else.
abbrev pub CountsRefusedBy : Next Session Broken → ℕ → ℕ → Type 0
CountsRefusedBy nexts.Done before now = now ≡ before
CountsRefusedBy nexts.Failed before now = now ≡ before
CountsRefusedBy (nexts.Whole session) before now = now ≡ before
CountsRefusedBy (nexts.Broke broken) before now = CountsRefused broken.fault before now
