-- What a controller holds, and what comes of a line.
use Rattle.std.specs.Prelude.{◌≡◌, ℕ, ℤ, List, [], ◌∷◌, ◌++◌, Result, Ok}
use Rattle.gw_json.specs.declared.refusal.Refusal.{Refusal}
use Rattle.gw_match.specs.model.Telling.{change_of, world_after}
use Rattle.gw_resolve.specs.Cores.{Core}
use Rattle.gw_resolve.specs.declared.outcome.Outcome.{Outcome}
use Rattle.gw_resolve.specs.declared.outcome.Outcome.TheVariants.{Accepted, Skipped}
use Rattle.gw_snap.specs.Lists.{BeginsWith, Book, Lists}
use Rattle.gw_store.specs.Events.{Read, a_change, is_skipped}
use Rattle.gw_store.specs.SeenEvents.{seen_event}
use Rattle.gw_store.specs.declared.event.Entry.{Entry}
use Rattle.gw_text.specs.model.Doors.{Door}
use Rattle.gw_text.specs.model.Objects.{Change}

-- The changes that were taken, those of them that are published, the doors and the controller's name, and which opening it is.
pub record Control : Type 0 where
  pub changes : List Entry
  pub published : List Entry
  pub doors : List Door
  pub controller : List ℕ
  pub book : Book

-- Before the first change of an opening.
abbrev pub beginning : List Door → List ℕ → Book → Control
beginning doors controller book = record { changes = []; published = []; doors = doors; controller = controller; book = book }

-- The objects are those after the changes that were appended, for the doors and the name of what is published; what is published begins
-- what was appended.
pub record Follows (core : Core) (lists : Lists Entry (List Door × List ℕ)) : Type 0 where
  pub world : core.store.world ≡ world_after lists.pending
  pub fixed : lists.fixed ≡ (core.doors, core.controller)
  pub begins : BeginsWith lists.published lists.pending

-- What comes of a line with this answer, at a moment: one change more, which is that of the answer, or none.
abbrev pub Comes : Result Read Refusal → ℤ → Outcome → List Entry → List Entry → Type 0
Comes answer at Accepted changes changes' =
    (entry : Entry) × ((answer ≡ Ok (a_change (seen_event entry.event))) × (entry.at ≡ at) × (changes' ≡ changes ++ entry ∷ []))
Comes answer at Skipped changes changes' = (answer ≡ Ok is_skipped) × (changes' ≡ changes)

-- One entry more, which is this change.
abbrev pub Appends : Change → List Entry → List Entry → Type 0
Appends change changes changes' = (entry : Entry) × ((change_of entry ≡ change) × (changes' ≡ changes ++ entry ∷ []))
