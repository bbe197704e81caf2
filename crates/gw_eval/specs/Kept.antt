-- What is kept of Routes from change to change.
use Rattle.std.specs.Prelude.{ℕ, List, Bool, ◌&&◌, nat_eq, map, Option, option_map}
use Rattle.std.specs.List.{list_any}
use Rattle.gw_text.specs.model.Names.{Key, same_key}
use Rattle.gw_text.specs.model.Plans.{Plan, plans_of}
use Rattle.gw_text.specs.model.Routes.{HttpRoute, parent_key}
use Rattle.gw_text.specs.model.Statuses.{Entry, RouteStatus, entries_of, route_status_of}
use Rattle.gw_text.specs.model.Stored.{Stored}
use Rattle.gw_text.specs.model.World.{World, route_at}

-- The listeners of a Gateway to which an entry attaches its Route.
pub record AttachedAt : Type 0 where
  pub gateway : Key
  pub listeners : List ℕ

-- Those of an entry.
abbrev pub attached_of : Entry → AttachedAt
attached_of e = record { gateway = parent_key e.parent; listeners = e.attachment.listeners }

-- A Route: itself, its status, where each entry attaches it, and what its rules do.
pub record KeptRoute : Type 0 where
  pub route : Stored HttpRoute
  pub status : RouteStatus
  pub attached : List AttachedAt
  pub plans : List Plan

-- What is kept of a Route.
abbrev pub kept_route_of : List ℕ → World → Stored HttpRoute → KeptRoute
kept_route_of controller w s = record {
  route = s;
  status = route_status_of controller w s.object;
  attached = map attached_of (entries_of controller w s.object);
  plans = plans_of w s.object;
}

-- What is kept of the Route of this key, where it is held.
abbrev pub kept_route_at : List ℕ → World → Key → Option KeptRoute
kept_route_at controller w key = option_map (kept_route_of controller w) (route_at w key)

-- What is kept of all Routes, in key order.
abbrev pub kept_routes_of : List ℕ → World → List KeptRoute
kept_routes_of controller w = map (kept_route_of controller w) w.routes

-- An entry attaches its Route to the listener at this place of the Gateway of this key.
abbrev pub is_at : Key → ℕ → AttachedAt → Bool
is_at key place at = same_key key at.gateway && list_any (nat_eq place) at.listeners

-- Some entry of the Route does.
abbrev pub is_kept_at : Key → ℕ → KeptRoute → Bool
is_kept_at key place k = list_any (is_at key place) k.attached
