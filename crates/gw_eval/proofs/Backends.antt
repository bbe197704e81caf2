-- What becomes of a backendRef, of all slices, depends on those of its Service alone.
use Rattle.std.proofs.Common.{◌≡◌, ◌∙◌, ℕ, Bool, true, false, not, ◌&&◌, ◌⊎◌, inl, inr, if◌then◌else◌, List, [], ◌∷◌, filter, Option, Some, None, option_map, IfSome, refl, sym, ap}
use Rattle.std.specs.List.{flat_map}
use Rattle.std.specs.Option.{option_map_or}
use Rattle.std.specs.Str.{bytes_eq}
use Rattle.std.proofs.lemmas.Bool.{and_parts}
use Rattle.std.proofs.lemmas.Slice.Eq.{bytes_eq-Decides}
use Rattle.gw_text.specs.model.Addresses.{Socket}
use Rattle.gw_text.specs.model.Names.{Key, same_key, is_in_namespace}
use Rattle.gw_text.specs.model.References.{BackendState, invalid_kind, not_permitted, bad_protocol, ready_with, backend_state_in, backend_state_of, each_once, is_other_protocol, is_permitted, is_slice_of, service_port, slice_sockets, sockets_of, state_of_port, state_of_service}
use Rattle.gw_text.specs.model.Routes.{BackendRef, backend_key, is_core_service}
use Rattle.gw_text.specs.model.Services.{Service, ServicePort}
use Rattle.gw_text.specs.model.Slices.{EndpointSlice, is_ipv4_type}
use Rattle.gw_text.specs.model.Stored.{Stored, stored_at, in_namespace, objects_of}
use Rattle.gw_text.specs.model.World.{World, service_at, service_key, slice_key}

known : (b : Bool) → (b ≡ true) ⊎ (b ≡ false)
known true = inl refl
known false = inr refl

abbrev of : Key → List EndpointSlice → List EndpointSlice
of service slices = filter (is_slice_of service) slices

-- a Service that is found has the key that was asked for
same_is : (k name : Key) → same_key k name ≡ true → k ≡ name
same_is k name same =
    let both = and_parts (bytes_eq k.namespace name.namespace) (bytes_eq k.name name.name) same in
    let namespaces : k.namespace ≡ name.namespace = (bytes_eq-Decides k.namespace name.namespace).0 both.0 in
    let names : k.name ≡ name.name = (bytes_eq-Decides k.name name.name).0 both.1 in
    ap (λ n. record { namespace = n; name = k.name }) namespaces ∙ ap (λ n. record { namespace = name.namespace; name = n }) names

found_key : (key : Key) (services : List (Stored Service)) → IfSome (option_map (λ s. s.object) (stored_at service_key key services)) (λ s. s.meta.key ≡ key)
found_key key [] = tt
found_key key (s ∷ services) =
    elim (known (same_key s.object.meta.key key)) [
      | inl e ↦ (rw e (same_is s.object.meta.key key e))
      | inr e ↦ (rw e (found_key key services))
    ]

-- the slices of a Service stand in its namespace
stands_in : (k : Key) (e : EndpointSlice) → is_slice_of k e ≡ true → is_in_namespace k.namespace e.meta.key ≡ true
unfolding is_slice_of
stands_in k e is =
    let parts = and_parts (is_ipv4_type e.address_type && is_in_namespace k.namespace e.meta.key) _ is in
    (and_parts (is_ipv4_type e.address_type) (is_in_namespace k.namespace e.meta.key) parts.0).1

within_namespace : (k : Key) (slices : List (Stored EndpointSlice)) → of k (objects_of (in_namespace slice_key k.namespace slices)) ≡ of k (objects_of slices)
within_namespace k [] = refl
within_namespace k (s ∷ slices) =
    elim (known (is_slice_of k s.object)) [
      | inl is ↦ (rw (stands_in k s.object is, is) (ap (λ (rest : List EndpointSlice). s.object ∷ rest) (within_namespace k slices)))
      | inr other ↦ (
          let rest = within_namespace k slices in
          elim (known (is_in_namespace k.namespace s.object.meta.key)) [
            | inl e ↦ (rw (e, other) rest)
            | inr e ↦ (rw (e, other) rest)
          ])
    ]

-- equal slices of a Service give equal states
sockets_same : (k : Key) (name : List ℕ) (xs ys : List EndpointSlice) → of k xs ≡ of k ys → sockets_of k name xs ≡ sockets_of k name ys
unfolding sockets_of
sockets_same k name xs ys same = ap (λ (slices : List EndpointSlice). each_once (flat_map (slice_sockets name) slices)) same

port_same : (s : Service) (port : Option ServicePort) (xs ys : List EndpointSlice) → of s.meta.key xs ≡ of s.meta.key ys → state_of_port s xs port ≡ state_of_port s ys port
port_same s None xs ys same = refl
port_same s (Some p) xs ys same =
    ap (λ (sockets : List Socket). if option_map_or is_other_protocol p.app_protocol false then bad_protocol else ready_with sockets) (sockets_same s.meta.key p.name xs ys same)

service_same : (port : Option ℕ) (service : Option Service) (xs ys : List EndpointSlice) → IfSome service (λ s. of s.meta.key xs ≡ of s.meta.key ys) → state_of_service port xs service ≡ state_of_service port ys service
service_same port None xs ys same = refl
service_same port (Some s) xs ys same =
    ap (λ (state : BackendState). if s.external_name then invalid_kind else state) (port_same s (service_port port s) xs ys same)

state_same : (b : BackendRef) (permitted : Bool) (service : Option Service) (xs ys : List EndpointSlice) → IfSome service (λ s. of s.meta.key xs ≡ of s.meta.key ys) →
    backend_state_of b permitted service xs ≡ backend_state_of b permitted service ys
unfolding backend_state_of
state_same b permitted service xs ys same =
    ap (λ (state : BackendState). if not (is_core_service b.group b.kind) then invalid_kind else (if not permitted then not_permitted else state)) (service_same b.port service xs ys same)

if_keyed : (k : Key) (service : Option Service) (xs ys : List EndpointSlice) → IfSome service (λ s. s.meta.key ≡ k) → of k xs ≡ of k ys → IfSome service (λ s. of s.meta.key xs ≡ of s.meta.key ys)
if_keyed k None xs ys keyed same = tt
if_keyed k (Some s) xs ys keyed same = rw keyed same

-- so the slices of the Service that a backendRef names decide
pub state_by_service : (w : World) (namespace : List ℕ) (b : BackendRef) (slices : List EndpointSlice) → of (backend_key b) slices ≡ of (backend_key b) (objects_of w.slices) →
    backend_state_of b (is_permitted w namespace b) (option_map (λ s. s.object) (service_at w (backend_key b))) slices ≡ backend_state_in w namespace b
unfolding backend_state_in
state_by_service w namespace b slices same =
    let key = backend_key b in
    state_same b (is_permitted w namespace b) (option_map (λ s. s.object) (service_at w key)) slices (objects_of (in_namespace slice_key b.namespace w.slices))
    (if_keyed key (option_map (λ s. s.object) (service_at w key)) slices (objects_of (in_namespace slice_key b.namespace w.slices)) (found_key key w.services) (same ∙ sym (within_namespace key w.slices)))
