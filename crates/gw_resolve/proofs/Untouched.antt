-- What is kept of what an event doesn't touch.
use Rattle.std.proofs.Common.{◌≡◌, ◌∙◌, ℕ, false, All, List, Option, Some, None, IfSome, get_or, option_map, map, refl, sym, ap, ap₂, subst}
use Rattle.std.proofs.lemmas.List.Elements.{All-map}
use Rattle.gw_deps.specs.Edges.{has_key}
use Rattle.gw_rows.specs.model.Rows.{ServedListener}
use Rattle.gw_text.specs.model.Doors.{Door}
use Rattle.gw_text.specs.model.Names.{Key}
use Rattle.gw_text.specs.model.Statuses.{Entry, GatewayStatus, RouteStatus, entries_of, gateway_statuses_of, route_status_of}
use Rattle.gw_text.specs.model.Stored.{Stored, IsInKeyOrder}
use Rattle.gw_text.specs.model.Plans.{Plan, plans_of}
use Rattle.gw_text.specs.model.Routes.{HttpRoute}
use Rattle.gw_text.specs.model.World.{World, gateway_key, route_at}
use Rattle.gw_eval.specs.Kept.{KeptRoute, attached_of, kept_route_at, kept_route_of, kept_routes_of}
use Rattle.gw_eval.specs.Results.{gateway_status_at}
use Rattle.gw_untouched.specs.Untouched.{GatewayStays, IsSameRoute, RouteStays}
use Rattle.gw_kept.specs.Held.{ServedDoor, gateway_status_key, kept_route_key, served_door}
use Rattle.gw_kept.specs.Places.{kept_at}
use Rattle.gw_resolve.proofs.Keeping.{gateway_kept, route_kept}

same_kept : (controller : List ℕ) (w after : World) (s : Stored HttpRoute) → IsSameRoute controller w after s.object → kept_route_of controller after s ≡ kept_route_of controller w s
same_kept controller w after s same =
    ap (λ (status : RouteStatus). record { route = s; status = status; attached = map attached_of (entries_of controller after s.object); plans = plans_of after s.object }) same.status
    ∙ ap₂ (λ (entries : List Entry) (plans : List Plan). record { route = s; status = route_status_of controller w s.object; attached = map attached_of entries; plans = plans }) same.entries same.plans

same_found : (controller : List ℕ) (w after : World) (found : Option (Stored HttpRoute)) → IfSome found (λ s. IsSameRoute controller w after s.object) →
    option_map (kept_route_of controller after) found ≡ option_map (kept_route_of controller w) found
same_found controller w after None same = refl
same_found controller w after (Some s) same = ap Some (same_kept controller w after s same)

-- what is kept of a Route that stays is what was kept
pub route_stays_kept : (controller : List ℕ) (w after : World) (k : Key) → RouteStays controller w after k → kept_route_at controller w k ≡ kept_route_at controller after k
route_stays_kept controller w after k stays =
    sym (ap (option_map (kept_route_of controller after)) stays.held ∙ same_found controller w after (route_at w k) stays.evaluated)

-- what was kept of a Route that stays is what is to be kept of it
pub route_left : (controller : List ℕ) (w after : World) (kept : List KeptRoute) (k : Key) → kept ≡ kept_routes_of controller w → RouteStays controller w after k →
    kept_at kept_route_key k kept ≡ kept_route_at controller after k
route_left controller w after kept k are stays = route_kept controller w kept k are ∙ route_stays_kept controller w after k stays

-- and so is the status of a Gateway that stays
pub gateway_left : (doors : List Door) (controller : List ℕ) (w after : World) (kept : List GatewayStatus) (k : Key) → kept ≡ gateway_statuses_of doors controller w →
    IsInKeyOrder gateway_key w.gateways → GatewayStays doors controller w after k → kept_at gateway_status_key k kept ≡ gateway_status_at doors controller after k
gateway_left doors controller w after kept k are order stays = ap (kept_at gateway_status_key k) are ∙ gateway_kept doors controller w k order ∙ sym stays.status

-- a door whose Gateway isn't touched has the listeners that are served there after the event
abbrev pub IsLeft : List Door → List ℕ → World → List Key → ServedDoor → Type 0
IsLeft doors controller after touched d = has_key d.door.gateway touched ≡ false → d ≡ served_door doors controller after d.door

-- and so do the listeners that are served at its doors
pub door_left : (doors : List Door) (controller : List ℕ) (w after : World) (served : List ServedDoor) (touched : List Key) → served ≡ map (served_door doors controller w) doors
    → ((k : Key) → has_key k touched ≡ false → GatewayStays doors controller w after k) → All (IsLeft doors controller after touched) served
door_left doors controller w after served touched are stay =
    subst (All (IsLeft doors controller after touched)) (sym are) (All-map (IsLeft doors controller after touched) (served_door doors controller w) doors each)
  where
    each : All (λ door. IsLeft doors controller after touched (served_door doors controller w door)) doors
    each i e within other =
        let door = get_or doors i e in
        ap (λ (listeners : List ServedListener). record { door = door; listeners = listeners }) (sym ((stay door.gateway other).served door refl))
