-- What an inlet stands for: bytes, whether all have come, and the steps that it gave.
use Rattle.std.specs.Prelude.{ℕ, ◌+◌, ◌-◌, ◌*◌, ◌<◌, ◌≤◌, ◌≡◌, ◌⊎◌, ◌++◌, List, [], ◌∷◌, Bool, true, false, ⊤, Option, Some, None, count_by}
use Rattle.gw_messages.specs.model.Bodies.{Body, whole_body, bad_body, part_body}
use Rattle.gw_frames.specs.model.Requests.{Asks, a_head, Step as Plain, an_ask, a_continue, a_refusal, an_end, a_break, Opening, after_no_body, end_behind, ended, ended_after, fault_code, whole_request}
use Rattle.gw_frames.specs.declared.ended.Ended.{Ended}
use Rattle.gw_frames.specs.declared.ended.Ended.TheVariants.{Closed, Truncated, Asked, Enough, Refused}
use Rattle.gw_frames.specs.declared.inlet.Inlet.{Inlet}
use Rattle.gw_frames.specs.declared.inlet.Stage.{Stage}
use Rattle.gw_frames.specs.declared.inlet.Stage.TheVariants.{Head, Body as Reads, Closing, Done}
use Rattle.gw_frames.specs.declared.step.Step.{Step}
use Rattle.gw_frames.specs.declared.step.Step.TheVariants as steps
use Rattle.gw_messages.specs.Readings.{Comes, missing as missing_of}

-- The step of the definitions, or none where more bytes are needed.
abbrev pub given : Step → List Plain
given steps.Need = []
given (steps.Ask r) = an_ask r.value ∷ []
given steps.Continue = a_continue ∷ []
given (steps.Bad code) = a_refusal code ∷ []
given steps.End = an_end ∷ []
given steps.Truncated = a_break ∷ []

-- The last step of a connection that ended so.
abbrev pub last_step : Ended → Plain
last_step (Refused code) = a_refusal code
last_step Truncated = a_break
last_step Closed = an_end
last_step Asked = an_end
last_step Enough = an_end

-- The steps behind a head, where its body comes to this.
abbrev pub Follows : ℕ → Opening → Body → Bool → List Plain → Type 0
Follows count o (whole_body body rest) over more =
    (later : List Plain) × (more ≡ an_ask (whole_request o body) ∷ later)
    × (((why : Ended) × (end_behind (count + 1) o.request ≡ Some why) × (later ≡ an_end ∷ []))
    ⊎ ((end_behind (count + 1) o.request ≡ None) × Asks a_head (count + 1) rest over later))
Follows count o (bad_body fault) over more = more ≡ a_refusal (fault_code fault) ∷ []
Follows count o part_body over more = more ≡ after_no_body over

-- The steps that are still to come at a stage, with these bytes behind those that were taken.
abbrev pub StillAt : Stage → ℕ → List ℕ → Bool → List Plain → Type 0
StillAt Head count bytes over more = Asks a_head count bytes over more
StillAt (Reads o r) count bytes over more = (body : Body) × Comes r bytes body × Follows count o body over more
StillAt (Closing why) count bytes over more = more ≡ last_step why ∷ []
StillAt (Done why) count bytes over more = more ≡ []

-- The steps that an inlet still gives, where these bytes come next, and then all have come where `over` is true.
abbrev pub Still : Inlet → List ℕ → Bool → List Plain → Type 0
Still i next over more = StillAt i.stage i.count (i.buffer ++ next) over more

-- A further request may come.
abbrev pub HasRoomAt : Stage → ℕ → Type 0
HasRoomAt Head count = count < 1000
HasRoomAt (Reads o r) count = count < 1000
HasRoomAt (Closing why) count = ⊤
HasRoomAt (Done why) count = ⊤

-- How many requests and answers 100 may still come at a stage, behind so many requests: one of each for every further request,
-- but no answer 100 for a request whose body is read.
abbrev pub left_at : Stage → ℕ → ℕ
left_at Head count = 2 * (1000 - count)
left_at (Reads o r) count = 2 * (1000 - count) - 1
left_at (Closing why) count = 0
left_at (Done why) count = 0

-- How many bytes of the body that is read at a stage are known to be missing; none where no body is read.
abbrev pub missing_at : Stage → List ℕ → Option ℕ
missing_at Head buffer = None
missing_at (Reads o r) buffer = Some (missing_of r buffer)
missing_at (Closing why) buffer = None
missing_at (Done why) buffer = None

-- How many requests and answers 100 an inlet may still give.
abbrev pub steps_left : Inlet → ℕ
steps_left i = left_at i.stage i.count

-- A step that isn't the last of a connection: a request, or the answer 100.
abbrev pub is_not_last : Plain → Bool
is_not_last (an_ask r) = true
is_not_last a_continue = true
is_not_last (a_refusal code) = false
is_not_last an_end = false
is_not_last a_break = false

-- A request and the answer 100 leave fewer of them to come, and no other step leaves more.
abbrev pub IsFewer : Step → ℕ → ℕ → Type 0
IsFewer steps.Need after before = after ≤ before
IsFewer (steps.Ask r) after before = after < before
IsFewer steps.Continue after before = after < before
IsFewer (steps.Bad code) after before = after ≤ before
IsFewer steps.End after before = after ≤ before
IsFewer steps.Truncated after before = after ≤ before

-- How the connection ends with these steps, from a stage on.
abbrev pub ended_at : Stage → ℕ → List Plain → Option Ended
ended_at Head count more = ended_after count Closed more
ended_at (Reads o r) count more = ended_after count Closed more
ended_at (Closing why) count more = ended_after count why more
ended_at (Done why) count more = Some why

-- What may still come.
abbrev pub IsFuture : Bool → List ℕ → Bool → Type 0
IsFuture false next over = ⊤
IsFuture true next over = (next ≡ []) × (over ≡ true)

-- Whatever comes next, the steps of all bytes are those that were given and those that are still to come, and the inlet
-- knows how the connection ends.
pub record StandsFor (i : Inlet) (bytes : List ℕ) (steps : List Plain) : Type 0 where
  pub room : HasRoomAt i.stage i.count
  pub leads : (next : List ℕ) (over : Bool) (more : List Plain) → IsFuture i.over next over → Still i next over more
      → Asks a_head 0 (bytes ++ next) over (steps ++ more)
  pub told : (more : List Plain) → ended (steps ++ more) ≡ ended_at i.stage i.count more

-- One inlet becomes another and gives these steps: whatever comes next, they and what the other one gives are what the first one
-- would have given, and no more requests and answers 100 than it might give.
pub record Goes (i j : Inlet) (steps : List Plain) : Type 0 where
  pub over : j.over ≡ i.over
  pub room : HasRoomAt i.stage i.count → HasRoomAt j.stage j.count
  pub leads : HasRoomAt i.stage i.count → (next : List ℕ) (over : Bool) (more : List Plain) → IsFuture i.over next over → Still j next over more
      → Still i next over (steps ++ more)
  pub told : HasRoomAt i.stage i.count → (more : List Plain) → ended_at i.stage i.count (steps ++ more) ≡ ended_at j.stage j.count more
  pub left : HasRoomAt i.stage i.count → count_by is_not_last steps + steps_left j ≤ steps_left i

-- The steps that were given: a last step is given once.
abbrev pub fresh : Stage → Step → List Plain
fresh Head step = given step
fresh (Reads o r) step = given step
fresh (Closing why) step = given step
fresh (Done why) step = []

-- The step before a body, if there is one.
abbrev pub given_some : Option Step → List Plain
given_some None = []
given_some (Some step) = given step

-- Nothing more is there: more bytes are needed, or the connection ended.
abbrev pub IsAll : Step → Type 0
IsAll steps.Need = ⊤
IsAll (steps.Ask r) = ⊥
IsAll steps.Continue = ⊥
IsAll (steps.Bad code) = ⊤
IsAll steps.End = ⊤
IsAll steps.Truncated = ⊤

-- No step is still to come where a step says so.
abbrev pub IsStill : Inlet → Step → Type 0
IsStill i steps.Need = Still i [] i.over []
IsStill i (steps.Ask r) = ⊤
IsStill i steps.Continue = ⊤
IsStill i (steps.Bad code) = Still i [] i.over []
IsStill i steps.End = Still i [] i.over []
IsStill i steps.Truncated = Still i [] i.over []

-- Steps and further ones, where the connection didn't end with them.
abbrev pub unless_ended : Option Ended → List Plain → List Plain → List Plain
unless_ended None steps more = steps ++ more
unless_ended (Some why) steps more = steps

-- Steps and a further one: a last step is given once.
abbrev pub with_step : List Plain → Step → List Plain
with_step steps step = unless_ended (ended steps) steps (given step)

-- Behind its end a connection gives its last step again.
abbrev pub IsLast : Option Ended → Step → Type 0
IsLast None step = ⊤
IsLast (Some why) step = given step ≡ last_step why ∷ []

-- All bytes of the connection have come.
abbrev pub is_over : Inlet → Bool
is_over i = i.over

-- A body is read.
abbrev pub IsReads : Stage → Type 0
IsReads Head = ⊥
IsReads (Reads o r) = ⊤
IsReads (Closing why) = ⊥
IsReads (Done why) = ⊥

-- What comes behind a request.
abbrev pub stage_behind : Option Ended → Stage
stage_behind None = Head
stage_behind (Some why) = Closing why

-- How a connection ended that is at this stage, if it did.
abbrev pub ended_by : Stage → Option Ended
ended_by Head = None
ended_by (Reads o r) = None
ended_by (Closing why) = None
ended_by (Done why) = Some why
