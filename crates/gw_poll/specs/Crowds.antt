-- A crowd: connections of one worker, each with a number, that are polled one at a time.
use Rattle.std.specs.Prelude.{◌≡◌, ◌≢◌, ◌⊎◌, ℕ, ◌+◌, ◌<◌, ◌≤◌, List, [], ◌∷◌, ◌++◌, length, map, drop, not, true, if◌then◌else◌, nat_eq, Option, Some, None, IfSome, Result, All, AllPairs, Contains, IsPermutation, option_to_list}
use Rattle.std.specs.List.{filter, filter_map, IsDistinct}
use Rattle.futures.specs.Poll.{OnPending}
use Rattle.futures.specs.declared.task.Poll.{Poll}
use Rattle.futures.specs.declared.task.Poll.TheVariants.{Ready, Pending}
use Rattle.futures.specs.declared.task.context.Context.{Context}
use Rattle.gw_frames.specs.declared.ended.Ended.{Ended}
use Rattle.gw_frames.specs.Inlets.{is_over}
use Rattle.gw_link.specs.Faults.{HasRisen}
use Rattle.gw_link.specs.Pieces.{Keeps}
use Rattle.gw_polling.specs.Polls.{HasNoMark, IfDone, IsUsedUp, OnFailed}
use Rattle.gw_polling.specs.Rings.{is_among, without}
use Rattle.gw_polling.specs.declared.poll_link.PollLink.{Ghosts as LinkWords}
use Rattle.gw_polling.specs.declared.poll_upstream.PollUpstream.{Ghosts as UpstreamWords}
use Rattle.gw_worker.specs.Flows.{Outside, outside}
use Rattle.gw_worker.specs.Workers.{IsAt}
use Rattle.gw_worker.specs.declared.serve.ConnFault.{ConnFault}
use Rattle.gw_worker.specs.model.Sessions.{Place}
use Rattle.gw_worker.specs.model.Workers.{Worker}
use Rattle.gw_poll.specs.Causes.{CountsRefusedIn, HasCause, HasWaited, IfFailed, OnGoing}
use Rattle.gw_poll.specs.Courses.{CanGoOn, Follows, GivesUp, GoesTo, IsIdle}
use Rattle.gw_poll.specs.Histories.{History, IsSession, no_history}
use Rattle.gw_poll.specs.Members.{Member}
use Rattle.gw_poll.specs.declared.conn_future.ConnFuture.{ConnFuture}
use Rattle.gw_poll.specs.declared.crowd.Crowd.{Crowd}
use Rattle.gw_poll.specs.declared.crowd.Parted.{Parted}

-- One poll of a connection: its number, the connection and the worker before it and behind it, and the answer.
pub record Lent (K U : Type 0) : Type 0 where
  pub number : ℕ
  pub before : ConnFuture K U
  pub after : ConnFuture K U
  pub w : Worker
  pub w' : Worker
  pub answer : Poll (Result Ended ConnFault)

module _ {K U : Type 0} (k : LinkWords K) (u : UpstreamWords U) where
  -- What a connection's link and upstream tell.
  abbrev pub told : ConnFuture K U → Outside
  told c = outside (k.written c.link) (u.exchanges c.up) (u.faults c.up)

  -- What such a poll makes of the connection, as it is said of one that is polled alone. `cx` is the task behind the crowd's turn.
  pub record IsPolled (cx : Context) (t : Lent K U) : Type 0 where
    pub goes : OnGoing t.answer ((p : Place) (h : History) → IsAt t.w p → Follows p t.before.course h
        → GoesTo (u.refuses t.before.up t.after.up) p t.w t.w' t.after.course h (k.left t.before.link) (k.left t.after.link) (told t.before) (told t.after))
    pub broke : OnFailed t.answer ((p : Place) (h : History) → IsAt t.w p → Follows p t.before.course h
        → GivesUp (u.refuses t.before.up t.after.up) p t.w t.w' t.after.course h (k.left t.before.link) (k.left t.after.link) (told t.before) (told t.after))
    pub ends : IfDone t.answer (λ why. (p : Place) (h : History) → Follows p t.after.course h → IsSession p h t.after.course.conn.rows (Some why))
    pub caught_up : OnPending t.answer ((¬ HasRisen (k.write_waits t.before.link) (k.write_waits t.after.link)) → (¬ HasRisen (u.waits t.before.up) (u.waits t.after.up))
        → (p : Place) (h : History) → Follows p t.after.course h → IsSession p h t.after.course.conn.rows None)
    pub used_up : OnPending t.answer (HasNoMark (k.marks t.before.link) → HasNoMark (u.marks t.before.up)
        → IsUsedUp (k.left t.after.link) (k.end t.after.link) × ((p : Place) (h : History) → Follows p t.after.course h → IsSession p h t.after.course.conn.rows None))
    pub waits : OnPending t.answer (HasWaited cx (k.source t.after.link) (k.read_waits t.before.link) (k.read_waits t.after.link)
        ⊎ (HasWaited cx (k.source t.after.link) (k.write_waits t.before.link) (k.write_waits t.after.link)
        ⊎ HasWaited cx (u.source t.after.up) (u.waits t.before.up) (u.waits t.after.up)))
    pub idle : OnPending t.answer (HasNoMark (k.marks t.before.link) → HasNoMark (u.marks t.before.up) → IsIdle t.after.course)
    pub over : OnGoing t.answer (is_over t.after.course.conn.inlet ≡ true
        → (is_over t.before.course.conn.inlet ≡ true) ⊎ IfSome (k.end t.before.link) (λ told. IfSome (k.end t.after.link) (λ has_end. has_end ≡ true)))
    pub unended : Keeps (k.end t.before.link) (k.end t.after.link)
    pub cause : IfFailed t.answer (HasCause (k.faults t.before.link) (k.faults t.after.link))
    pub refused : CountsRefusedIn t.answer t.w.pass.refused t.w'.pass.refused

-- Each poll is lent the worker as the one before it left it.
abbrev pub Passes : {K U : Type 0} → Worker → List (Lent K U) → Worker → Type 0
Passes w [] w' = w' ≡ w
Passes w (t ∷ turns) w' = (t.w ≡ w) × Passes t.w' turns w'

-- The numbers that are polled, in their order: each that is open, once.
abbrev pub polled_of : List ℕ → List ℕ → List ℕ
polled_of open_numbers [] = []
polled_of open_numbers (number ∷ named) =
    if is_among number open_numbers then number ∷ polled_of (without number open_numbers) named else polled_of open_numbers named

abbrev pub numbers_in : {K U : Type 0} → List (Member K U) → List ℕ
numbers_in members = map (λ member. member.number) members

abbrev pub numbers_of : {K U : Type 0} → Crowd K U → List ℕ
numbers_of crowd = numbers_in crowd.members.items

-- The connection, which is open at a door, may be polled.
abbrev pub IsOpenAt : {K U : Type 0} → UpstreamWords U → ℕ → Member K U → Type 0
IsOpenAt u door member = CanGoOn member.conn.course (u.at member.conn.up) × (member.conn.course.conn.door ≡ door)

-- The connection stays open where it waits.
abbrev pub staying_by : {K U : Type 0} → Lent K U → Poll (Result Ended ConnFault) → Option (Member K U)
staying_by t Pending = Some (record { number = t.number; conn = t.after })
staying_by t (Ready result) = None

abbrev pub staying : {K U : Type 0} → Lent K U → Option (Member K U)
staying t = staying_by t t.answer

-- And else it is given back, with what it came to.
abbrev pub leaving_by : {K U : Type 0} → Lent K U → Poll (Result Ended ConnFault) → Option (Parted K U)
leaving_by t Pending = None
leaving_by t (Ready result) = Some (record { number = t.number; rows = t.after.course.conn.rows; link = t.after.link; up = t.after.up; result = result })

abbrev pub leaving : {K U : Type 0} → Lent K U → Option (Parted K U)
leaving t = leaving_by t t.answer

-- The connection as an open one.
abbrev pub taken : {K U : Type 0} → Lent K U → Member K U
taken t = record { number = t.number; conn = t.before }

-- One poll: of this connection, which then stands behind those that wait, or behind the ended ones.
pub record PollsOne {K U : Type 0} (k : LinkWords K) (u : UpstreamWords U) (cx : Context) (w w' : Worker) (member : Member K U) (waiting waiting' : List (Member K U)) (gone gone' : List (Parted K U)) : Type 0 where
  pub turn : Lent K U
  pub before_is : turn.w ≡ w
  pub after_is : turn.w' ≡ w'
  pub member_is : taken turn ≡ member
  pub polled : IsPolled k u cx turn
  pub waiting_are : waiting' ≡ waiting ++ option_to_list (staying turn)
  pub gone_are : gone' ≡ gone ++ option_to_list (leaving turn)
  pub door : turn.after.course.conn.door ≡ turn.before.course.conn.door
  pub going : OnPending turn.answer (CanGoOn turn.after.course (u.at turn.after.up))

-- A turn: these polls, one after another; the connections that aren't named stay as they were.
pub record HasTurned {K U : Type 0} (k : LinkWords K) (u : UpstreamWords U) (cx : Context) (before after : Crowd K U) (named : List ℕ) (gone : List (Parted K U)) : Type 0 where
  pub turns : List (Lent K U)
  pub numbers : map (λ t. t.number) turns ≡ polled_of (numbers_of before) named
  pub passes : Passes before.worker turns after.worker
  pub polled : All (IsPolled k u cx) turns
  pub were : All (λ t. Contains before.members.items (taken t)) turns
  pub members : IsPermutation after.members.items (filter (λ member. not (is_among member.number (map (λ t. t.number) turns))) before.members.items ++ filter_map staying turns)
  pub gone_are : gone ≡ filter_map leaving turns
  pub door : after.door ≡ before.door

-- So far in a turn: these polls, behind which so many of the numbers were named; and which connections are left, wait, and are gone.
pub record IsTurning {K U : Type 0} (k : LinkWords K) (u : UpstreamWords U) (cx : Context) (door : ℕ) (first w : Worker) (before left waiting : List (Member K U)) (gone : List (Parted K U)) (named : List ℕ) (done : ℕ) : Type 0 where
  pub turns : List (Lent K U)
  pub numbers : map (λ t. t.number) turns ++ polled_of (numbers_in left) (drop done named) ≡ polled_of (numbers_in before) named
  pub passes : Passes first turns w
  pub polled : All (IsPolled k u cx) turns
  pub parts : IsPermutation before (map taken turns ++ left)
  pub waiting_are : waiting ≡ filter_map staying turns
  pub gone_are : gone ≡ filter_map leaving turns
  pub left_open : All (IsOpenAt u door) left
  pub waiting_open : All (IsOpenAt u door) waiting
  pub different : IsDistinct nat_eq (numbers_in left)
  pub few : length waiting + length gone + length left ≡ length before

-- A crowd may be polled: at most 256 are open, under different numbers, and no earlier poll of any of them was ready.
pub record CanTurn {K U : Type 0} (u : UpstreamWords U) (crowd : Crowd K U) : Type 0 where
  pub few : length crowd.members.items ≤ 256
  pub door : crowd.door < length crowd.worker.pass.fixed.0
  pub open_at : All (IsOpenAt u crowd.door) crowd.members.items
  pub different : AllPairs (λ m n. m ≢ n) (numbers_of crowd)

abbrev pub IsFull : {K U : Type 0} → Crowd K U → Type 0
IsFull crowd = length crowd.members.items ≡ 256

-- One connection more is open, of which no byte came yet.
pub record AdmitsOne {K U : Type 0} (before after : Crowd K U) (number : ℕ) (link : K) (up : U) : Type 0 where
  pub conn : ConnFuture K U
  pub members : after.members.items ≡ before.members.items ++ record { number = number; conn = conn } ∷ []
  pub link_is : conn.link ≡ link
  pub up_is : conn.up ≡ up
  pub follows : (p : Place) → p.door ≡ before.door → Follows p conn.course no_history
