-- A GatewayClass, field by field. Source: GatewayClass of the Gateway API reference.
use Rattle.std.specs.Prelude.{Result, Ok}
use Rattle.gw_json.specs.declared.refusal.Refusal.{Refusal}
use Rattle.gw_json.specs.Words.{◌>>=◌}
use Rattle.gw_json.specs.Fields.{Node}
use Rattle.gw_json.specs.Presence.{needed, is_given, spec_of}
use Rattle.gw_text.specs.model.Meta.{Meta}
use Rattle.gw_text.specs.model.GatewayClasses.{GatewayClass}
use Rattle.gw_objects.specs.declared.fields.TheConstants.{CONTROLLER_NAME, PARAMETERS_REF}
use Rattle.gw_forms.specs.Forms as forms

-- The fields of a GatewayClass, in the order in which they are read.
unfoldable pub class_of : Meta → Node → Result GatewayClass Refusal
class_of meta at = do
  spec ← spec_of at
  controller_name ← needed forms.word CONTROLLER_NAME.now spec
  parameters_ref ← is_given PARAMETERS_REF.now spec
  Ok (record { meta = meta; controller_name = controller_name; parameters_ref = parameters_ref })
