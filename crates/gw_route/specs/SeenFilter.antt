-- How a filter of the code stands for the plain one.
use Rattle.gw_text.specs.model.Filters.{Filter as Plain, request_header_modifier, response_header_modifier, request_redirect, url_rewrite, another_filter}
use Rattle.gw_route.specs.declared.plain.Filter.{Filter}
use Rattle.gw_route.specs.declared.plain.Filter.TheVariants.{RequestHeaderModifier, ResponseHeaderModifier, RequestRedirect, UrlRewrite, Other}

abbrev pub seen_filter : Filter → Plain
seen_filter (RequestHeaderModifier e) = request_header_modifier e
seen_filter (ResponseHeaderModifier e) = response_header_modifier e
seen_filter (RequestRedirect r) = request_redirect r
seen_filter (UrlRewrite w) = url_rewrite w
seen_filter (Other t) = another_filter t
