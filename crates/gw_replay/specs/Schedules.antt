-- What one publisher of changes and the workers that read from it can do, step by step, as data. Nothing of threads is said here: each
-- step is done at once.
use Rattle.std.specs.Prelude.{◌≡◌, ◌≤◌, ℕ, ℤ, List, [], ◌∷◌, ◌++◌, length, max, set, replicate, slice_get, take, Option, None, Some, Result, Ok, Err, ⊤}
use Rattle.gw_decide.specs.model.Verdicts.{Verdict, verdict_of}
use Rattle.gw_frames.specs.model.Requests.{Request}
use Rattle.gw_json.specs.declared.refusal.Refusal.{Refusal}
use Rattle.gw_match.specs.model.Telling.{change_of, world_after}
use Rattle.gw_store.specs.Events.{Read, a_change as is_change, is_skipped, answer}
use Rattle.gw_store.specs.declared.event.Entry.{Entry}
use Rattle.gw_worker.specs.model.Sessions.{rows_after}
use Rattle.gw_replay.specs.Replays.{Site, State, place_at}

-- A line comes, at a moment; all changes are published; a worker learns of a publication of so many changes; a worker reads; and a request
-- of it at a door gets this verdict. Workers and doors are named by their numbers.
pub data Step : Type 0 where
  a_change : List ℕ → ℤ → Step
  a_publication : Step
  a_note : ℕ → ℕ → Step
  a_reading : ℕ → Step
  an_ask : ℕ → ℕ → Request → Verdict → Step

-- The changes that were taken; how many of them are published; how many each worker has seen; and which worker has read, where that was the
-- last step.
pub record Schedule : Type 0 where
  pub changes : List Entry
  pub front : ℕ
  pub seen : List ℕ
  pub reader : Option ℕ

-- So many workers, before the first change.
abbrev pub beginning : ℕ → Schedule
beginning workers = record { changes = []; front = 0; seen = replicate workers 0; reader = None }

-- A line with this answer comes: it is one change more, or nothing.
abbrev pub Takes : Result Read Refusal → ℤ → List Entry → List Entry → Type 0
Takes (Ok (is_change event)) at list list' = (entry : Entry) × ((change_of entry ≡ record { event = event; at = at }) × (list' ≡ list ++ entry ∷ []))
Takes (Ok is_skipped) at list list' = list' ≡ list
Takes (Err e) at list list' = list' ≡ list

-- A worker has seen some number of changes from then on: at least as many as it had, and as it was told of; at most those that are published.
pub record Sees (worker told : ℕ) (m : Schedule) (seen : List ℕ) : Type 0 where
  pub before : ℕ
  pub after : ℕ
  pub there : slice_get m.seen worker ≡ Some before
  pub later : max before told ≤ after
  pub within : after ≤ m.front
  pub seen_is : seen ≡ set m.seen worker after

-- A request of a worker that has just read gets the verdict of the rows of the door, after as many changes as the worker has seen.
pub record Asks (site : Site) (worker door : ℕ) (q : Request) (v : Verdict) (m : Schedule) : Type 0 where
  pub read : m.reader ≡ Some worker
  pub seen : ℕ
  pub there : slice_get m.seen worker ≡ Some seen
  pub verdict : v ≡ verdict_of (rows_after (place_at site door) (take seen m.changes)) q

-- One step. A note tells of no more changes than are published.
abbrev pub Moves : Site → Step → Schedule → Schedule → Type 0
Moves site (a_change line at) m m' =
    (list : List Entry) × (Takes (answer (world_after m.changes) line) at m.changes list × (m' ≡ record m { changes = list; reader = None }))
Moves site a_publication m m' = m' ≡ record m { front = length m.changes; reader = None }
Moves site (a_note worker told) m m' = (seen : List ℕ) × (Sees worker told m seen × (told ≤ m.front) × (m' ≡ record m { seen = seen; reader = None }))
Moves site (a_reading worker) m m' = (seen : List ℕ) × (Sees worker 0 m seen × (m' ≡ record m { seen = seen; reader = Some worker }))
Moves site (an_ask worker door q v) m m' = Asks site worker door q v m × (m' ≡ record m { reader = None })

-- Steps, one after the other.
abbrev pub Goes : Site → List Step → Schedule → Schedule → Type 0
Goes site [] m m' = m' ≡ m
Goes site (step ∷ steps) m m' = (next : Schedule) × (Moves site step m next × Goes site steps next m')

-- No number is above this one.
abbrev pub AreAtMost : ℕ → List ℕ → Type 0
AreAtMost most [] = ⊤
AreAtMost most (n ∷ numbers) = (n ≤ most) × AreAtMost most numbers

-- None is published that wasn't taken, and none is seen that isn't published.
pub record IsSound (m : Schedule) : Type 0 where
  pub published : m.front ≤ length m.changes
  pub seen : AreAtMost m.front m.seen

-- No number falls.
abbrev pub NoneFalls : List ℕ → List ℕ → Type 0
NoneFalls [] after = after ≡ []
NoneFalls (n ∷ before) [] = ⊥
NoneFalls (n ∷ before) (m ∷ after) = (n ≤ m) × NoneFalls before after

-- The list of changes only grows, and neither the number of those that are published nor what a worker has seen falls.
pub record Rises (m m' : Schedule) : Type 0 where
  pub more : List Entry
  pub changes : m'.changes ≡ m.changes ++ more
  pub front : m.front ≤ m'.front
  pub seen : NoneFalls m.seen m'.seen

-- What a script's lines have done, as a schedule: every worker has learnt of each publication, and so has seen what is published.
abbrev pub schedule_of : State → Schedule
schedule_of s = record { changes = s.changes; front = length s.published; seen = replicate (length s.workers) (length s.published); reader = None }
