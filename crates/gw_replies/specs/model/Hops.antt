-- The fields that concern one connection alone, and are never passed on. Source: RFC 9110 sections 7.6.1 and 10.1.1, RFC 9112
-- sections 6 and 7.
use Rattle.std.specs.Prelude.{ℕ, List, [], ◌∷◌, ◌++◌, filter, codes, not}
use Rattle.std.specs.List.{flat_map, list_any}
use Rattle.gw_text.specs.model.Fields.{Field, same_field_name}
use Rattle.gw_messages.specs.model.Values.{elements, values_of}

-- The names that Connection has. Source: RFC 9110 section 7.6.1.
abbrev pub connection_options : List Field → List (List ℕ)
connection_options fields = flat_map elements (values_of (codes "connection") fields)

-- The fields of a response that are taken away, whatever Connection names.
abbrev pub response_hops : List (List ℕ)
response_hops =
    codes "connection" ∷ codes "keep-alive" ∷ codes "proxy-connection" ∷ codes "trailer" ∷ codes "transfer-encoding"
    ∷ codes "upgrade" ∷ codes "content-length" ∷ []

-- The fields of a request that are taken away: those, and TE, Expect and Host.
abbrev pub request_hops : List (List ℕ)
request_hops = codes "host" ∷ codes "te" ∷ codes "expect" ∷ response_hops

-- The fields without those of these names and those that Connection names, in their order.
abbrev pub without : List (List ℕ) → List Field → List Field
without names fields =
    filter (λ f. not (list_any (same_field_name f.name) (names ++ connection_options fields))) fields

-- The fields of a request that are passed on.
unfoldable pub passed_on : List Field → List Field
passed_on fields = without request_hops fields

-- The fields of a response that are passed back.
unfoldable pub passed_back : List Field → List Field
passed_back fields = without response_hops fields
