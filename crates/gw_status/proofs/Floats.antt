-- What is printed has no floats.
use Rattle.std.proofs.Common.{◌≡◌, Bool, true, false, Option, Some, None, ℕ, List, refl}
use Rattle.serde_json.specs.Data.{object}
use Rattle.serde_json.specs.Written.{has_float, items_have_float}
use Rattle.serde_json.specs.View.{items_of}
use Rattle.gw_json.proofs.Floats.{items_have_float-map}
use Rattle.gw_text.specs.model.Addresses.{Socket}
use Rattle.gw_text.specs.model.Statuses.{ClassStatus, ListenerStatus, GatewayStatus, ParentStatus, RouteStatus}
use Rattle.gw_status.specs.StatusText.{class_data, supported_kinds, listener_data, addresses_of, gateway_data, parent_key_members, parent_ref_members, parent_data, route_data}

kinds_have_no_float : (http : Bool) → items_have_float (items_of (supported_kinds http)) ≡ false
kinds_have_no_float true = refl
kinds_have_no_float false = refl

listener_has_no_float : (s : ListenerStatus) → has_float (listener_data s) ≡ false
unfolding listener_data
listener_has_no_float s = rw (kinds_have_no_float s.state.http) refl

addresses_have_no_float : (address : Option Socket) → items_have_float (items_of (addresses_of address)) ≡ false
addresses_have_no_float (Some at) = refl
addresses_have_no_float None = refl

pub class_has_no_float : (s : ClassStatus) → has_float (class_data s) ≡ false
unfolding class_data
class_has_no_float s = refl

pub gateway_has_no_float : (s : GatewayStatus) → has_float (gateway_data s) ≡ false
unfolding gateway_data
gateway_has_no_float s =
    rw (addresses_have_no_float s.state.address, items_have_float-map listener_data s.listeners listener_has_no_float) refl

parent_ref_has_no_float : (s : ParentStatus) (section : Option (List ℕ)) (port : Option ℕ) → section ≡ s.section → port ≡ s.port → has_float (object (parent_ref_members s)) ≡ false
unfolding parent_ref_members parent_key_members
parent_ref_has_no_float s None None section port = rw (← section, ← port) refl
parent_ref_has_no_float s None (Some p) section port = rw (← section, ← port) refl
parent_ref_has_no_float s (Some n) None section port = rw (← section, ← port) refl
parent_ref_has_no_float s (Some n) (Some p) section port = rw (← section, ← port) refl

parent_has_no_float : (s : ParentStatus) → has_float (parent_data s) ≡ false
unfolding parent_data
parent_has_no_float s = rw (parent_ref_has_no_float s s.section s.port refl refl) refl

pub route_has_no_float : (s : RouteStatus) → has_float (route_data s) ≡ false
unfolding route_data
route_has_no_float s = rw (items_have_float-map parent_data s.parents parent_has_no_float) refl
