-- What a core holds and evaluates, and a change that is prepared on it.
use Rattle.std.specs.Prelude.{◌≡◌, ◌+◌, ◌<◌, ℕ, List, length, map, false}
use Rattle.std.specs.List.Sorted.{IsStrictlySortedBy}
use Rattle.gw_deps.specs.Edges.{name_order}
use Rattle.gw_deps.specs.Indexes.{Index, IsIndexOf, Patch}
use Rattle.gw_deps.specs.Touching.{AreTouched, Touched}
use Rattle.gw_eval.specs.Kept.{kept_routes_of}
use Rattle.gw_kept.specs.Held.{Held, served_door}
use Rattle.gw_match.specs.model.Telling.{Tables, tables_of}
use Rattle.gw_store.specs.Stores.{Store, least}
use Rattle.gw_text.specs.model.Doors.{Door}
use Rattle.gw_text.specs.model.Objects.{Change}
use Rattle.gw_text.specs.model.Statuses.{Statuses, statuses_of}
use Rattle.gw_text.specs.model.World.{World, apply, is_full}

-- The objects, for which doors and which controller they are evaluated, and which of them depend on which.
pub record Core : Type 0 where
  pub store : Store
  pub doors : List Door
  pub controller : List ℕ
  pub index : Index

-- The index with as much room for more as the other has.
abbrev pub with_spares : Index → Index → Index
with_spares i other = record {
  by_class = record i.by_class { spare = other.by_class.spare };
  by_gateway = record i.by_gateway { spare = other.by_gateway.spare };
  by_namespace = record i.by_namespace { spare = other.by_namespace.spare };
  by_service = record i.by_service { spare = other.by_service.spare };
  by_grant = record i.by_grant { spare = other.by_grant.spare };
}

-- The core with as much room for more as the other has.
abbrev pub with_rooms : Core → Core → Core
with_rooms c other = record c { store = record c.store { rooms = other.store.rooms }; index = with_spares c.index other.index }

-- A change that was prepared on a core.
pub record Preparation : Type 0 where
  pub core : Core
  pub change : Change

-- The objects after the change.
abbrev pub world_with : Preparation → World
world_with p = apply p.core.store.world p.change

-- The tables of the doors for these objects.
abbrev pub tables_at : List Door → List ℕ → World → Tables
tables_at doors controller w = record { number = w.changes; doors = doors; controller = controller; tables = tables_of doors controller w }

-- The statuses and tables are those of these objects, evaluated from scratch.
pub record AreOf (statuses : Statuses) (tables : Tables) (doors : List Door) (controller : List ℕ) (w : World) : Type 0 where
  pub statuses_are : statuses ≡ statuses_of doors controller w
  pub tables_are : tables ≡ tables_at doors controller w

-- What is kept of all Routes of these objects, and which listeners are served at the doors.
abbrev pub held_of : List Door → List ℕ → World → Held
held_of doors controller w = record { controller = controller; kept = kept_routes_of controller w; doors = map (served_door doors controller w) doors }

-- It is that of these objects.
abbrev pub AreKept : Held → List Door → List ℕ → World → Type 0
AreKept kept doors controller w = kept ≡ held_of doors controller w

-- All that is kept and evaluated is that of the objects, and the index is theirs.
pub record IsCore (kept : Held) (statuses : Statuses) (tables : Tables) (c : Core) : Type 0 where
  pub kept_are : AreKept kept c.doors c.controller c.store.world
  pub evaluated : AreOf statuses tables c.doors c.controller c.store.world
  pub index_is : IsIndexOf c.store.world c.index

-- There is room for the change, and all that is evaluated after it is at hand.
pub record IsPrepared (p : Preparation) (kept : Held) (statuses : Statuses) (tables : Tables) (patch : Patch) : Type 0 where
  pub room : 0 < least p.core.store.rooms
  pub fits : is_full p.core.store.world p.change.event ≡ false
  pub kept_are : AreKept kept p.core.doors p.core.controller (world_with p)
  pub evaluated : AreOf statuses tables p.core.doors p.core.controller (world_with p)
  pub patch_is : patch ≡ record { index = p.core.index; world = p.core.store.world; event = p.change.event }

-- So many Routes and Gateways depend on the object of the change, in the objects before it or in those after it, each counted once.
pub record AreTouchedBy (w : World) (change : Change) (n : ℕ) : Type 0 where
  pub touched : Touched
  pub are : AreTouched w change.event change.at touched
  pub routes_once : IsStrictlySortedBy name_order touched.routes
  pub gateways_once : IsStrictlySortedBy name_order touched.gateways
  pub count : n ≡ length touched.routes + length touched.gateways
