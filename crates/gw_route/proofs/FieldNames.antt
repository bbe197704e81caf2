-- The names of fields, as the Gateway API reference has them.
use Rattle.std.proofs.Common.{◌≡◌, codes, refl}
use Rattle.gw_route.specs.declared.field_names.TheConstants.{PARENT_REFS, SECTION_NAME, BACKEND_REFS, QUERY_PARAMS, STATUS_CODE, REPLACE_FULL_PATH, REPLACE_PREFIX_MATCH, REQUEST_HEADER_MODIFIER, RESPONSE_HEADER_MODIFIER, REQUEST_REDIRECT, URL_REWRITE}

pub parent_refs_is : PARENT_REFS.now ≡ codes "parentRefs"
parent_refs_is = refl

pub section_name_is : SECTION_NAME.now ≡ codes "sectionName"
section_name_is = refl

pub backend_refs_is : BACKEND_REFS.now ≡ codes "backendRefs"
backend_refs_is = refl

pub query_params_is : QUERY_PARAMS.now ≡ codes "queryParams"
query_params_is = refl

pub status_code_is : STATUS_CODE.now ≡ codes "statusCode"
status_code_is = refl

pub replace_full_path_is : REPLACE_FULL_PATH.now ≡ codes "replaceFullPath"
replace_full_path_is = refl

pub replace_prefix_match_is : REPLACE_PREFIX_MATCH.now ≡ codes "replacePrefixMatch"
replace_prefix_match_is = refl

pub request_header_modifier_is : REQUEST_HEADER_MODIFIER.now ≡ codes "requestHeaderModifier"
request_header_modifier_is = refl

pub response_header_modifier_is : RESPONSE_HEADER_MODIFIER.now ≡ codes "responseHeaderModifier"
response_header_modifier_is = refl

pub request_redirect_is : REQUEST_REDIRECT.now ≡ codes "requestRedirect"
request_redirect_is = refl

pub url_rewrite_is : URL_REWRITE.now ≡ codes "urlRewrite"
url_rewrite_is = refl
