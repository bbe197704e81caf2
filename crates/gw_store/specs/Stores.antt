-- A world as it is kept.
use Rattle.std.specs.Prelude.{ℕ, List, min}
use Rattle.gw_text.specs.model.Objects.{Event}
use Rattle.gw_text.specs.model.Slices.{EndpointSlice}
use Rattle.gw_text.specs.model.World.{World}
use Rattle.gw_store.specs.ByService.{least_spare}

-- For how many objects more of each kind there is room, and for how many slices more in each part of their index.
pub record Rooms : Type 0 where
  pub classes : ℕ
  pub gateways : ℕ
  pub routes : ℕ
  pub grants : ℕ
  pub namespaces : ℕ
  pub services : ℕ
  pub slices : ℕ
  pub by_service : List ℕ

-- For how many of any one kind.
abbrev pub least : Rooms → ℕ
least r = min r.classes (min r.gateways (min r.routes (min r.grants (min r.namespaces (min r.services (min r.slices (least_spare r.by_service)))))))

-- The world, its rooms, and its slices once more in the order of their Services.
pub record Store : Type 0 where
  pub world : World
  pub rooms : Rooms
  pub by_service : List EndpointSlice

-- A change that may be undone: the store before it and after it, and its event.
pub record Tried : Type 0 where
  pub before : Store
  pub after : Store
  pub event : Event
