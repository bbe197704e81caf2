-- Where a redirect sends a client, and what a rewrite makes of a request's target and host. Source: HTTPRequestRedirectFilter,
-- HTTPURLRewriteFilter and HTTPPathModifier of the Gateway API reference.
use Rattle.std.specs.Prelude.{ℕ, List, [], ◌∷◌, ◌++◌, codes, decimal, ◌==◌, bytes_eq, if◌then◌else◌, Option, Some, None, unwrap_or}
use Rattle.gw_text.specs.model.Filters.{PathModifier, replace_full_path, replace_prefix_match, another_modifier, Redirect, Rewrite}
use Rattle.gw_text.specs.model.Matches.{PathMatch}
use Rattle.gw_text.specs.model.Paths.{SLASH, with_prefix_replaced}
use Rattle.gw_frames.specs.model.Requests.{Request}

-- The value of ReplaceFullPath as a path: it begins with a slash.
abbrev pub full_path : List ℕ → List ℕ
full_path [] = codes "/"
full_path (b ∷ value) = if b == SLASH then b ∷ value else SLASH ∷ b ∷ value

-- What becomes of a path that a match with this value fits.
abbrev pub modified : Option PathModifier → List ℕ → List ℕ → List ℕ
modified None value path = path
modified (Some (replace_full_path replacement)) value path = full_path replacement
modified (Some (replace_prefix_match replacement)) value path = with_prefix_replaced path value replacement
modified (Some (another_modifier name)) value path = path

-- The query behind a path, where the request's target has one.
abbrev pub query_text : Option (List ℕ) → List ℕ
query_text None = []
query_text (Some query) = codes "?" ++ query

-- The scheme: the given one, else `http`, which is what was spoken.
abbrev pub scheme_of : Redirect → List ℕ
scheme_of r = unwrap_or r.scheme (codes "http")

-- The port of a scheme. Source: RFC 9110 sections 4.2.1 and 4.2.2.
abbrev pub scheme_port : List ℕ → ℕ
scheme_port scheme = if bytes_eq scheme (codes "https") then 443 else 80

-- The port: the given one; else that of the given scheme; else the listener's. Source: HTTPRequestRedirectFilter, port.
abbrev pub port_of : Option ℕ → Option (List ℕ) → ℕ → ℕ
port_of (Some port) scheme listener = port
port_of None (Some scheme) listener = scheme_port scheme
port_of None None listener = listener

-- The port's text: none where it is the scheme's own. Source: HTTPRequestRedirectFilter, port.
abbrev pub port_text : List ℕ → ℕ → List ℕ
port_text scheme port = if port == scheme_port scheme then [] else codes ":" ++ decimal port

-- The Location of a redirect. Source: RFC 9110 section 10.2.2.
unfoldable pub location_of : Redirect → PathMatch → Request → ℕ → List ℕ
location_of r m request port =
    scheme_of r ++ codes "://" ++ unwrap_or r.hostname request.host ++ port_text (scheme_of r) (port_of r.port r.scheme port)
    ++ modified r.path m.value request.path ++ query_text request.query

-- The target that a backend is sent: the path after the rewrite, and the query.
abbrev pub target_of : Rewrite → PathMatch → Request → List ℕ
target_of w m request = modified w.path m.value request.path ++ query_text request.query

-- The host that a backend is sent: the rewritten one, else the authority as it was sent.
abbrev pub host_of : Rewrite → Request → List ℕ
host_of w request = unwrap_or w.hostname request.authority
