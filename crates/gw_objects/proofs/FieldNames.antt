-- The constants are the names that the fields have.
use Rattle.std.proofs.Common.{◌≡◌, codes, refl}
use Rattle.gw_text.specs.declared.kind.TheConstants.{GATEWAY_GROUP}
use Rattle.gw_text.specs.model.Kinds.{gateway_group}
use Rattle.gw_objects.specs.declared.fields.TheConstants.{CONTROLLER_NAME, PARAMETERS_REF, GATEWAY_CLASS_NAME, ALLOWED_ROUTES, MATCH_LABELS, MATCH_EXPRESSIONS, CREATION_TIMESTAMP, APP_PROTOCOL, ADDRESS_TYPE}

pub controller_name_is : CONTROLLER_NAME.now ≡ codes "controllerName"
controller_name_is = refl

pub parameters_ref_is : PARAMETERS_REF.now ≡ codes "parametersRef"
parameters_ref_is = refl

pub gateway_class_name_is : GATEWAY_CLASS_NAME.now ≡ codes "gatewayClassName"
gateway_class_name_is = refl

pub allowed_routes_is : ALLOWED_ROUTES.now ≡ codes "allowedRoutes"
allowed_routes_is = refl

pub match_labels_is : MATCH_LABELS.now ≡ codes "matchLabels"
match_labels_is = refl

pub match_expressions_is : MATCH_EXPRESSIONS.now ≡ codes "matchExpressions"
match_expressions_is = refl

pub creation_timestamp_is : CREATION_TIMESTAMP.now ≡ codes "creationTimestamp"
creation_timestamp_is = refl

pub app_protocol_is : APP_PROTOCOL.now ≡ codes "appProtocol"
app_protocol_is = refl

pub address_type_is : ADDRESS_TYPE.now ≡ codes "addressType"
address_type_is = refl

pub gateway_group_is : GATEWAY_GROUP.now ≡ gateway_group
unfolding gateway_group
gateway_group_is = refl
