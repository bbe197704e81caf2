-- A backend that is ready has a socket, in each row of each world.
use Rattle.std.proofs.Common.{◌≡◌, ◌<◌, ℕ, Bool, true, false, not, if◌then◌else◌, List, [], ◌∷◌, length, arith, ap, Option, Some, None}
use Rattle.std.proofs.lemmas.List.Elements.{All-append, All-map, All-nil}
use Rattle.std.specs.Prelude.{All}
use Rattle.std.specs.List.{enumerate_from, flat_map}
use Rattle.std.specs.Option.{option_map_or}
use Rattle.gw_row_laws.proofs.Tables.{in_tables}
use Rattle.gw_row_laws.specs.Drawing.{HasSocketsIfReady}
use Rattle.gw_row_laws.specs.Tabled.{rows_after}
use Rattle.gw_rows.specs.model.DoorRows.{RouteHostname, attached_routes, hostname_rows, hostnames_for, listener_rows, route_rows, row_of, rows_of, rule_rows, served_at}
use Rattle.gw_rows.specs.model.Rows.{Row, Rows, ServedListener}
use Rattle.gw_store.specs.declared.event.Entry.{Entry}
use Rattle.gw_text.specs.model.Addresses.{Socket}
use Rattle.gw_text.specs.model.Doors.{Door}
use Rattle.gw_text.specs.model.Matches.{Match}
use Rattle.gw_text.specs.model.Plans.{Plan, backend_of, plan_of}
use Rattle.gw_text.specs.model.References.{BackendState, invalid_kind, not_permitted, bad_protocol, ready, ready_with, backend_state_in, backend_state_of, is_other_protocol, service_port, sockets_of, state_of_port, state_of_service}
use Rattle.gw_text.specs.model.Routes.{BackendRef, HttpRoute, Rule, is_core_service}
use Rattle.gw_text.specs.model.Services.{Service, ServicePort}
use Rattle.gw_text.specs.model.Slices.{EndpointSlice}
use Rattle.gw_text.specs.model.Stored.{Stored}
use Rattle.gw_text.specs.model.World.{World}

abbrev HasSockets : BackendState → Type 0
HasSockets state = (sockets : List Socket) → state ≡ ready sockets → 0 < length sockets

either : (t : Bool) (a b : BackendState) → HasSockets a → HasSockets b → HasSockets (if t then a else b)
either true a b x y = x
either false a b x y = y

ready_with_some : (found : List Socket) → HasSockets (ready_with found)
ready_with_some [] sockets e = absurd (cc)
ready_with_some (s ∷ found) sockets e = let same : s ∷ found ≡ sockets = cc in omega (arith, ap length same)

by_port : (s : Service) (slices : List EndpointSlice) (port : Option ServicePort) → HasSockets (state_of_port s slices port)
by_port s slices None = λ sockets e. absurd (cc)
by_port s slices (Some p) =
    either (option_map_or is_other_protocol p.app_protocol false) bad_protocol (ready_with (sockets_of s.meta.key p.name slices))
    (λ sockets e. absurd (cc)) (ready_with_some (sockets_of s.meta.key p.name slices))

by_service : (port : Option ℕ) (slices : List EndpointSlice) (service : Option Service) → HasSockets (state_of_service port slices service)
by_service port slices None = λ sockets e. absurd (cc)
by_service port slices (Some s) =
    either s.external_name invalid_kind (state_of_port s slices (service_port port s)) (λ sockets e. absurd (cc)) (by_port s slices (service_port port s))

by_reference : (b : BackendRef) (permitted : Bool) (service : Option Service) (slices : List EndpointSlice) → HasSockets (backend_state_of b permitted service slices)
unfolding backend_state_of
by_reference b permitted service slices =
    either (not (is_core_service b.group b.kind)) invalid_kind (if not permitted then not_permitted else state_of_service b.port slices service)
    (λ sockets e. absurd (cc))
    (either (not permitted) not_permitted (state_of_service b.port slices service) (λ sockets e. absurd (cc)) (by_service b.port slices service))

in_world : (w : World) (namespace : List ℕ) (b : BackendRef) → HasSocketsIfReady (backend_of w namespace b)
unfolding backend_state_in
in_world w namespace b = by_reference b _ _ _

every : {T : Type 0} (P : T → Type 0) (items : List T) → ((x : T) → P x) → All P items
every P items holds k d within = holds _

in_pieces : {X T : Type 0} (P : T → Type 0) (f : X → List T) (xs : List X) → ((x : X) → All P (f x)) → All P (flat_map f xs)
in_pieces P f [] each = All-nil P
in_pieces P f (x ∷ xs) each = All-append P (f x) (flat_map f xs) (each x) (in_pieces P f xs each)

abbrev pub AreReady : Row → Type 0
AreReady row = All HasSocketsIfReady row.plan.backends

in_plan : (w : World) (namespace : List ℕ) (rule : Rule) → All HasSocketsIfReady (plan_of w namespace rule).backends
in_plan w namespace rule =
    All-map HasSocketsIfReady (backend_of w namespace) rule.backend_refs
    (every (λ (b : BackendRef). HasSocketsIfReady (backend_of w namespace b)) rule.backend_refs (in_world w namespace))

in_rule : (w : World) (l : ServedListener) (s : Stored HttpRoute) (h : RouteHostname) (rule : ℕ × Rule) → All AreReady (rule_rows w l s h rule)
in_rule w l s h rule =
    let plan : Plan = plan_of w s.object.meta.key.namespace rule.1 in
    All-map AreReady (row_of l s h rule.0 plan) (enumerate_from 0 rule.1.matches)
    (every (λ (m : ℕ × Match). AreReady (row_of l s h rule.0 plan m)) (enumerate_from 0 rule.1.matches) (λ m. in_plan w s.object.meta.key.namespace rule.1))

in_door : (doors : List Door) (controller : List ℕ) (w : World) (door : Door) → All AreReady (rows_of doors controller w door).rows
unfolding rows_of
in_door doors controller w door =
    in_pieces AreReady (listener_rows controller w door) (served_at doors controller w door)
    (λ l. in_pieces AreReady (route_rows w l) (attached_routes controller w door l)
    (λ s. in_pieces AreReady (hostname_rows w l s) (hostnames_for l.hostname s.object.hostnames)
    (λ h. in_pieces AreReady (rule_rows w l s h) (enumerate_from 0 s.object.rules) (in_rule w l s h))))

pub ready_backends : (doors : List Door) (controller : List ℕ) (changes : List Entry) (door : ℕ)
    → All (λ row. All HasSocketsIfReady row.plan.backends) (rows_after doors controller changes door).rows
ready_backends doors controller changes door =
    in_tables (λ (rows : Rows). All AreReady rows.rows) doors controller changes door (All-nil AreReady) (in_door doors controller)
