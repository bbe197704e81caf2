-- What a whole connection of a link comes to.
use Rattle.std.specs.Prelude.{◌≡◌, ◌+◌, ◌≤◌, ℕ, ℤ, Bool, true, List, [], ◌++◌, length, map, Option, Some, IfSome}
use Rattle.gw_edge.specs.Accepting.{Closes, GivesNext, Told}
use Rattle.gw_edge.specs.declared.next.Next.{Next}
use Rattle.gw_edge.specs.declared.next.Next.TheVariants as next
use Rattle.gw_frames.specs.Inlets.{StandsFor as InletStandsFor}
use Rattle.gw_frames.specs.declared.ended.Ended.{Ended as End}
use Rattle.gw_frames.specs.declared.inlet.Inlet.{Inlet}
use Rattle.gw_frames.specs.model.Requests.{Asks, Step, a_head, ended}
use Rattle.gw_link.specs.Pieces.{Gives, IsAtEnd, Keeps}
use Rattle.gw_lists.specs.Lists.{BeginsWith}
use Rattle.gw_message_laws.specs.declared.requests.TheConstants.{MOST_OPEN_BYTES}
use Rattle.gw_store.specs.declared.event.Entry.{Entry}
use Rattle.gw_admin.specs.Conns.{Adds, BrokeOff, Leaves, Outside, Turned, outside}
use Rattle.gw_admin.specs.Faults.{CountsAs, CountsNothing, PassSeen}
use Rattle.gw_admin.specs.declared.conn.Conn.{Conn}
use Rattle.gw_admin.specs.declared.conn.Flow.TheVariants.{Ended}
use Rattle.gw_admin.specs.declared.fault.AdminFault.{AdminFault}
use Rattle.gw_admin.specs.declared.serve.AdminSession.{AdminSession}
use Rattle.gw_admin.specs.declared.serve.TheConstants.{MOST_PIECE}
use Rattle.gw_admin.specs.model.Sessions.{Part, Place, asks_behind, step_of}

-- The bytes taken from a link, and what came of them: each request is answered, the clock is asked in turn, all is written, and the
-- connection ended; where the end needs that all bytes have come, nothing is left.
pub record HasServed (p : Place) (session : AdminSession) (left left' : Option (List ℕ)) (o o' : Outside) : Type 0 where
  pub bytes : List ℕ
  pub over : Bool
  pub parts : List Part
  pub taken : Gives left bytes left'
  pub few : length bytes ≤ MOST_OPEN_BYTES + MOST_PIECE
  pub came : over ≡ true → IfSome left (λ told. IsAtEnd left')
  pub is_all : Asks a_head 0 bytes over (map step_of parts)
  pub ends : ended (map step_of parts) ≡ Some session.ended
  pub asks : session.asks ≡ asks_behind 0 parts
  pub adds : Adds p 0 o o' parts

-- A connection that was given up: the texts of what came first of the bytes taken were made, and a front of them was written. One step
-- further may have come of which no text was made.
pub record HasBroken (p : Place) (left left' : Option (List ℕ)) (o o' : Outside) : Type 0 where
  pub bytes : List ℕ
  pub fed : List ℕ
  pub inlet : Inlet
  pub parts : List Part
  pub further : List Step
  pub taken : Gives left bytes left'
  pub few : length bytes ≤ MOST_OPEN_BYTES + MOST_PIECE
  pub begins : BeginsWith fed bytes
  pub single : length further ≤ 1
  pub first : InletStandsFor inlet fed (map step_of parts ++ further)
  pub leaves : Leaves p 0 o o' parts

-- A connection of which no byte had come is served by bytes of the link until it ends.
pub record Ran (p : Place) (c : Conn) (left left' : Option (List ℕ)) (o o' : Outside) (why : End) : Type 0 where
  pub bytes : List ℕ
  pub over : Bool
  pub taken : Gives left bytes left'
  pub few : length bytes ≤ MOST_OPEN_BYTES + MOST_PIECE
  pub came : over ≡ true → IfSome left (λ told. IsAtEnd left')
  pub turned : Turned p c over bytes [] o o' (Some (Ended why))

-- It is given up behind some bytes of the link.
pub record Stopped (p : Place) (c : Conn) (left left' : Option (List ℕ)) (o o' : Outside) : Type 0 where
  pub bytes : List ℕ
  pub taken : Gives left bytes left'
  pub few : length bytes ≤ MOST_OPEN_BYTES + MOST_PIECE
  pub broke : BrokeOff p c bytes [] o o'

-- An acceptor gave a link that told this, served so, and closed it as one that tells that.
pub record Accepts (coming closed coming' closed' : Option (List Told)) (link link' : Told) : Type 0 where
  pub given : GivesNext coming (Some link) coming'
  pub closes : Closes closed link' closed'

-- What came of an acceptor's next link.
abbrev pub IsNext : Place → Next AdminSession AdminFault → Option (List Told) → Option (List Told) → Option (List Told) → Option (List Told)
    → List Entry → List Entry → Option (List ℤ) → Option (List ℤ) → Type 0
IsNext p next.Done coming closed coming' closed' seen seen' moments moments' =
    IfSome coming (λ links. links ≡ []) × Keeps coming coming' × Keeps closed closed' × (seen' ≡ seen) × (moments' ≡ moments)
IsNext p next.Failed coming closed coming' closed' seen seen' moments moments' =
    Keeps coming coming' × Keeps closed closed' × (seen' ≡ seen) × (moments' ≡ moments)
IsNext p (next.Whole session) coming closed coming' closed' seen seen' moments moments' =
    (link : Told) × (link' : Told) × Accepts coming closed coming' closed' link link'
    × HasServed p session link.left link'.left (outside seen moments link.written) (outside seen' moments' link'.written)
IsNext p (next.Broke fault) coming closed coming' closed' seen seen' moments moments' =
    (link : Told) × (link' : Told) × Accepts coming closed coming' closed' link link'
    × HasBroken p link.left link'.left (outside seen moments link.written) (outside seen' moments' link'.written)

-- What a pass counts by what comes of a link.
abbrev pub CountsNext : Next AdminSession AdminFault → PassSeen → PassSeen → Type 0
CountsNext next.Done old new = CountsNothing old new
CountsNext next.Failed old new = CountsNothing old new
CountsNext (next.Whole session) old new = CountsNothing old new
CountsNext (next.Broke fault) old new = CountsAs fault old new
