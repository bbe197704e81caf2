-- What an event doesn't touch stays, whatever its kind.
use Rattle.std.proofs.Common.{◌≡◌, ◌∙◌, ℕ, ◌+◌, ℤ, false, List, None, Some, refl, sym, subst, inl, inr}
use Rattle.gw_text.specs.declared.kind.Kind.TheVariants as kinds
use Rattle.gw_text.specs.model.Doors.{Door}
use Rattle.gw_text.specs.model.Names.{Key}
use Rattle.gw_text.specs.model.Objects.{Event, puts, removes, a_class, a_gateway, a_route, a_grant, a_namespace, a_service, a_slice}
use Rattle.gw_text.specs.model.World.{World, apply, changed, is_route_kind}
use Rattle.gw_deps.specs.Edges.{has_key}
use Rattle.gw_deps.specs.Touching.{AreTouched, Touched, event_kind}
use Rattle.gw_untouched.specs.Untouched.{GatewayStays, IsAfter, IsOrderedFor, LeavesGateway, LeavesRoute, RouteStays}
use Rattle.gw_untouched.proofs.ByClass.{routes as routes_by_class, gateways as gateways_by_class}
use Rattle.gw_untouched.proofs.ByGateway.{routes as routes_by_gateway, gateways as gateways_by_gateway}
use Rattle.gw_untouched.proofs.ByGrant.{routes as routes_by_grant, gateways as gateways_by_grant}
use Rattle.gw_untouched.proofs.ByNamespace.{routes as routes_by_namespace, gateways as gateways_by_namespace}
use Rattle.gw_untouched.proofs.ByRoute.{routes as routes_by_route, gateways as gateways_by_route}
use Rattle.gw_untouched.proofs.ByService.{routes as routes_by_service, gateways as gateways_by_service}
use Rattle.gw_untouched.proofs.BySlice.{routes as routes_by_slice, gateways as gateways_by_slice}
use Rattle.gw_untouched.proofs.Tables.{neither}

routes_stay_changed : (controller : List ℕ) (w : World) (event : Event) (at : ℤ) (k : Key) → IsOrderedFor w event → LeavesRoute w event at k → RouteStays controller w (changed w event at) k
routes_stay_changed controller w (puts (a_class x)) at k ordered untouched = routes_by_class controller w x.meta.key (Some x) at w.changes refl ordered k untouched
routes_stay_changed controller w (puts (a_gateway x)) at k ordered untouched = routes_by_gateway controller w x.meta.key (Some x) at w.changes refl ordered k untouched
routes_stay_changed controller w (puts (a_route x)) at k ordered untouched = routes_by_route controller w x.meta.key (Some x) at w.changes refl ordered k untouched
routes_stay_changed controller w (puts (a_grant x)) at k ordered untouched = routes_by_grant controller w x.meta.key (Some x) at w.changes refl ordered k untouched
routes_stay_changed controller w (puts (a_namespace x)) at k ordered untouched = routes_by_namespace controller w x.meta.key (Some x) at w.changes refl ordered k untouched
routes_stay_changed controller w (puts (a_service x)) at k ordered untouched = routes_by_service controller w x.meta.key (Some x) at w.changes refl ordered k untouched
routes_stay_changed controller w (puts (a_slice x)) at k ordered untouched = routes_by_slice controller w x.meta.key (Some x) at w.changes refl ordered k untouched
routes_stay_changed controller w (removes kinds.GatewayClass key) at k ordered untouched = routes_by_class controller w key None at w.changes tt ordered k untouched
routes_stay_changed controller w (removes kinds.Gateway key) at k ordered untouched = routes_by_gateway controller w key None at w.changes tt ordered k untouched
routes_stay_changed controller w (removes kinds.HttpRoute key) at k ordered untouched = routes_by_route controller w key None at w.changes tt ordered k untouched
routes_stay_changed controller w (removes kinds.ReferenceGrant key) at k ordered untouched = routes_by_grant controller w key None at w.changes tt ordered k untouched
routes_stay_changed controller w (removes kinds.Namespace key) at k ordered untouched = routes_by_namespace controller w key None at w.changes tt ordered k untouched
routes_stay_changed controller w (removes kinds.Service key) at k ordered untouched = routes_by_service controller w key None at w.changes tt ordered k untouched
routes_stay_changed controller w (removes kinds.EndpointSlice key) at k ordered untouched = routes_by_slice controller w key None at w.changes tt ordered k untouched

routes_stay_applied : (controller : List ℕ) (w : World) (event : Event) (at : ℤ) (k : Key) → IsOrderedFor w event → LeavesRoute w event at k → RouteStays controller w (apply w (record { event = event; at = at })) k
routes_stay_applied controller w (puts (a_class x)) at k ordered untouched = routes_by_class controller w x.meta.key (Some x) at (w.changes + 1) refl ordered k (record { earlier = untouched.earlier; later = untouched.later })
routes_stay_applied controller w (puts (a_gateway x)) at k ordered untouched = routes_by_gateway controller w x.meta.key (Some x) at (w.changes + 1) refl ordered k (record { earlier = untouched.earlier; later = untouched.later })
routes_stay_applied controller w (puts (a_route x)) at k ordered untouched = routes_by_route controller w x.meta.key (Some x) at (w.changes + 1) refl ordered k (record { earlier = untouched.earlier; later = untouched.later })
routes_stay_applied controller w (puts (a_grant x)) at k ordered untouched = routes_by_grant controller w x.meta.key (Some x) at (w.changes + 1) refl ordered k (record { earlier = untouched.earlier; later = untouched.later })
routes_stay_applied controller w (puts (a_namespace x)) at k ordered untouched = routes_by_namespace controller w x.meta.key (Some x) at (w.changes + 1) refl ordered k (record { earlier = untouched.earlier; later = untouched.later })
routes_stay_applied controller w (puts (a_service x)) at k ordered untouched = routes_by_service controller w x.meta.key (Some x) at (w.changes + 1) refl ordered k (record { earlier = untouched.earlier; later = untouched.later })
routes_stay_applied controller w (puts (a_slice x)) at k ordered untouched = routes_by_slice controller w x.meta.key (Some x) at (w.changes + 1) refl ordered k (record { earlier = untouched.earlier; later = untouched.later })
routes_stay_applied controller w (removes kinds.GatewayClass key) at k ordered untouched = routes_by_class controller w key None at (w.changes + 1) tt ordered k (record { earlier = untouched.earlier; later = untouched.later })
routes_stay_applied controller w (removes kinds.Gateway key) at k ordered untouched = routes_by_gateway controller w key None at (w.changes + 1) tt ordered k (record { earlier = untouched.earlier; later = untouched.later })
routes_stay_applied controller w (removes kinds.HttpRoute key) at k ordered untouched = routes_by_route controller w key None at (w.changes + 1) tt ordered k (record { earlier = untouched.earlier; later = untouched.later })
routes_stay_applied controller w (removes kinds.ReferenceGrant key) at k ordered untouched = routes_by_grant controller w key None at (w.changes + 1) tt ordered k (record { earlier = untouched.earlier; later = untouched.later })
routes_stay_applied controller w (removes kinds.Namespace key) at k ordered untouched = routes_by_namespace controller w key None at (w.changes + 1) tt ordered k (record { earlier = untouched.earlier; later = untouched.later })
routes_stay_applied controller w (removes kinds.Service key) at k ordered untouched = routes_by_service controller w key None at (w.changes + 1) tt ordered k (record { earlier = untouched.earlier; later = untouched.later })
routes_stay_applied controller w (removes kinds.EndpointSlice key) at k ordered untouched = routes_by_slice controller w key None at (w.changes + 1) tt ordered k (record { earlier = untouched.earlier; later = untouched.later })

gateways_stay_changed : (doors : List Door) (controller : List ℕ) (w : World) (event : Event) (at : ℤ) (k : Key) → IsOrderedFor w event → LeavesGateway w event at k → GatewayStays doors controller w (changed w event at) k
gateways_stay_changed doors controller w (puts (a_class x)) at k ordered untouched = gateways_by_class controller w x.meta.key (Some x) at w.changes refl ordered doors k untouched
gateways_stay_changed doors controller w (puts (a_gateway x)) at k ordered untouched = gateways_by_gateway controller w x.meta.key (Some x) at w.changes refl ordered doors k untouched
gateways_stay_changed doors controller w (puts (a_route x)) at k ordered untouched = gateways_by_route controller w x.meta.key (Some x) at w.changes refl ordered doors k untouched
gateways_stay_changed doors controller w (puts (a_grant x)) at k ordered untouched = gateways_by_grant controller w x.meta.key (Some x) at w.changes refl ordered doors k
gateways_stay_changed doors controller w (puts (a_namespace x)) at k ordered untouched = gateways_by_namespace controller w x.meta.key (Some x) at w.changes refl ordered doors k untouched
gateways_stay_changed doors controller w (puts (a_service x)) at k ordered untouched = gateways_by_service controller w x.meta.key (Some x) at w.changes refl ordered doors k
gateways_stay_changed doors controller w (puts (a_slice x)) at k ordered untouched = gateways_by_slice controller w x.meta.key (Some x) at w.changes refl ordered doors k
gateways_stay_changed doors controller w (removes kinds.GatewayClass key) at k ordered untouched = gateways_by_class controller w key None at w.changes tt ordered doors k untouched
gateways_stay_changed doors controller w (removes kinds.Gateway key) at k ordered untouched = gateways_by_gateway controller w key None at w.changes tt ordered doors k untouched
gateways_stay_changed doors controller w (removes kinds.HttpRoute key) at k ordered untouched = gateways_by_route controller w key None at w.changes tt ordered doors k untouched
gateways_stay_changed doors controller w (removes kinds.ReferenceGrant key) at k ordered untouched = gateways_by_grant controller w key None at w.changes tt ordered doors k
gateways_stay_changed doors controller w (removes kinds.Namespace key) at k ordered untouched = gateways_by_namespace controller w key None at w.changes tt ordered doors k untouched
gateways_stay_changed doors controller w (removes kinds.Service key) at k ordered untouched = gateways_by_service controller w key None at w.changes tt ordered doors k
gateways_stay_changed doors controller w (removes kinds.EndpointSlice key) at k ordered untouched = gateways_by_slice controller w key None at w.changes tt ordered doors k

gateways_stay_applied : (doors : List Door) (controller : List ℕ) (w : World) (event : Event) (at : ℤ) (k : Key) → IsOrderedFor w event → LeavesGateway w event at k → GatewayStays doors controller w (apply w (record { event = event; at = at })) k
gateways_stay_applied doors controller w (puts (a_class x)) at k ordered untouched = gateways_by_class controller w x.meta.key (Some x) at (w.changes + 1) refl ordered doors k (record { earlier = untouched.earlier; later = untouched.later })
gateways_stay_applied doors controller w (puts (a_gateway x)) at k ordered untouched = gateways_by_gateway controller w x.meta.key (Some x) at (w.changes + 1) refl ordered doors k (record { earlier = untouched.earlier; later = untouched.later })
gateways_stay_applied doors controller w (puts (a_route x)) at k ordered untouched = gateways_by_route controller w x.meta.key (Some x) at (w.changes + 1) refl ordered doors k (record { earlier = untouched.earlier; later = untouched.later })
gateways_stay_applied doors controller w (puts (a_grant x)) at k ordered untouched = gateways_by_grant controller w x.meta.key (Some x) at (w.changes + 1) refl ordered doors k
gateways_stay_applied doors controller w (puts (a_namespace x)) at k ordered untouched = gateways_by_namespace controller w x.meta.key (Some x) at (w.changes + 1) refl ordered doors k (record { earlier = untouched.earlier; later = untouched.later })
gateways_stay_applied doors controller w (puts (a_service x)) at k ordered untouched = gateways_by_service controller w x.meta.key (Some x) at (w.changes + 1) refl ordered doors k
gateways_stay_applied doors controller w (puts (a_slice x)) at k ordered untouched = gateways_by_slice controller w x.meta.key (Some x) at (w.changes + 1) refl ordered doors k
gateways_stay_applied doors controller w (removes kinds.GatewayClass key) at k ordered untouched = gateways_by_class controller w key None at (w.changes + 1) tt ordered doors k (record { earlier = untouched.earlier; later = untouched.later })
gateways_stay_applied doors controller w (removes kinds.Gateway key) at k ordered untouched = gateways_by_gateway controller w key None at (w.changes + 1) tt ordered doors k (record { earlier = untouched.earlier; later = untouched.later })
gateways_stay_applied doors controller w (removes kinds.HttpRoute key) at k ordered untouched = gateways_by_route controller w key None at (w.changes + 1) tt ordered doors k (record { earlier = untouched.earlier; later = untouched.later })
gateways_stay_applied doors controller w (removes kinds.ReferenceGrant key) at k ordered untouched = gateways_by_grant controller w key None at (w.changes + 1) tt ordered doors k
gateways_stay_applied doors controller w (removes kinds.Namespace key) at k ordered untouched = gateways_by_namespace controller w key None at (w.changes + 1) tt ordered doors k (record { earlier = untouched.earlier; later = untouched.later })
gateways_stay_applied doors controller w (removes kinds.Service key) at k ordered untouched = gateways_by_service controller w key None at (w.changes + 1) tt ordered doors k
gateways_stay_applied doors controller w (removes kinds.EndpointSlice key) at k ordered untouched = gateways_by_slice controller w key None at (w.changes + 1) tt ordered doors k

-- whatever holds of both worlds after an event
pub after_either : (P : World → Type 0) (w : World) (event : Event) (at : ℤ) (after : World) → IsAfter w event at after → P (changed w event at) → P (apply w (record { event = event; at = at })) → P after
after_either P w event at after (inl is) first second = subst P (sym is) first
after_either P w event at after (inr is) first second = subst P (sym is) second

pub routes_stay : (controller : List ℕ) (w after : World) (event : Event) (at : ℤ) (k : Key) → IsAfter w event at after → IsOrderedFor w event → LeavesRoute w event at k → RouteStays controller w after k
routes_stay controller w after event at k is ordered untouched =
    after_either (λ v. RouteStays controller w v k) w event at after is (routes_stay_changed controller w event at k ordered untouched) (routes_stay_applied controller w event at k ordered untouched)

pub gateways_stay : (doors : List Door) (controller : List ℕ) (w after : World) (event : Event) (at : ℤ) (k : Key) → IsAfter w event at after → IsOrderedFor w event → LeavesGateway w event at k
    → GatewayStays doors controller w after k
gateways_stay doors controller w after event at k is ordered untouched =
    after_either (λ v. GatewayStays doors controller w v k) w event at after is (gateways_stay_changed doors controller w event at k ordered untouched)
    (gateways_stay_applied doors controller w event at k ordered untouched)

-- a key that is none of the touched ones is left
pub route_left : (w : World) (event : Event) (at : ℤ) (touched : Touched) (k : Key) → AreTouched w event at touched → has_key k touched.routes ≡ false → LeavesRoute w event at k
route_left w event at touched k are other =
    let parts = neither _ _ (sym (are.routes k) ∙ other) in record { earlier = parts.0; later = parts.1 }

pub gateway_left : (w : World) (event : Event) (at : ℤ) (touched : Touched) (k : Key) → AreTouched w event at touched → has_key k touched.gateways ≡ false → LeavesGateway w event at k
gateway_left w event at touched k are other =
    let parts = neither _ _ (sym (are.gateways k) ∙ other) in record { earlier = parts.0; later = parts.1 }
