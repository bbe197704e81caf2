-- A Service, field by field. Source: Service of the Kubernetes API.
use Rattle.std.specs.Prelude.{ℕ, List, codes, bytes_eq, Bool, false, Option, Result, Ok}
use Rattle.std.specs.Option.{option_map_or}
use Rattle.gw_json.specs.declared.refusal.Refusal.{Refusal}
use Rattle.gw_json.specs.Words.{◌>>=◌}
use Rattle.gw_json.specs.Fields.{Node}
use Rattle.gw_json.specs.Presence.{needed, given, defaulted, listed, spec_of, port_of}
use Rattle.gw_text.specs.model.Meta.{Meta}
use Rattle.gw_text.specs.model.Services.{ServicePort, Service}
use Rattle.gw_objects.specs.declared.fields.TheConstants.{APP_PROTOCOL}
use Rattle.gw_forms.specs.Forms as forms

-- The type of a Service is ExternalName; of other types nothing is kept.
abbrev pub is_external_name : Option (List ℕ) → Bool
is_external_name sort = option_map_or (λ t. bytes_eq t (codes "ExternalName")) sort false

-- The fields of an item of spec.ports, in the order in which they are read: ServicePort.
unfoldable pub service_port_of : Node → Result ServicePort Refusal
service_port_of at = do
  name ← defaulted (codes "") forms.word (codes "name") at
  port ← needed port_of (codes "port") at
  protocol ← defaulted (codes "TCP") forms.word (codes "protocol") at
  app_protocol ← given forms.word APP_PROTOCOL.now at
  Ok (record { name = name; port = port; protocol = protocol; app_protocol = app_protocol })

-- The fields of a Service, in the order in which they are read.
unfoldable pub service_of : Meta → Node → Result Service Refusal
service_of meta at = do
  spec ← spec_of at
  sort ← given forms.word (codes "type") spec
  ports ← listed 1024 service_port_of (codes "ports") spec
  Ok (record { meta = meta; external_name = is_external_name sort; ports = ports })
