-- Heads of requests: their fields, the tests that they pass, and what they announce. Source: RFC 9112 sections 3, 5 and 6, RFC 9110
-- sections 5, 7.2, 8.6 and 10.1.1.
use Rattle.std.specs.Prelude.{ℕ, ◌+◌, ◌-◌, ◌≡◌, List, [], ◌∷◌, length, take, drop, map, slice_index, slice_range, codes, Bool, true, false, not, ◌&&◌, ◌||◌, ◌==◌, nat_lt, nat_le, bytes_eq, if◌then◌else◌, Option, Some, None, unwrap_or}
use Rattle.std.specs.Char.{is_ascii_alphanumeric, is_ascii_digit, is_ascii_hexdigit}
use Rattle.std.specs.List.{list_all, list_any, position_or_len}
use Rattle.std.specs.Option.{option_map_or}
use Rattle.std.specs.Str.Parse.{digits_value}
use Rattle.httparse.specs.Grammar.{RequestHead, ReadsRequest}
use Rattle.http_uri.specs.Grammar.{IsUriText}
use Rattle.gw_text.specs.model.Fields.{Field}
use Rattle.gw_messages.specs.model.Values.{field_of, has_field, values_of, codings, ends_chunked, are_one_number, number_of}

-- A request's head: its method, its target, its minor version and its fields.
pub record Head : Type 0 where
  pub method : List ℕ
  pub target : List ℕ
  pub minor : ℕ
  pub fields : List Field

-- The parts of a head.
abbrev pub head_of : RequestHead → Head
head_of h = record { method = h.method; target = h.target; minor = h.minor; fields = map field_of h.fields }

-- The bytes are this head of HTTP/1.0 or HTTP/1.1 and nothing else, or they are no such head. Source: RFC 9112 sections 2 and 3.
abbrev pub IsHead : List ℕ → Option Head → Type 0
IsHead bytes None = (h : RequestHead) → ¬ (ReadsRequest bytes h [])
IsHead bytes (Some head) = (h : RequestHead) × ReadsRequest bytes h [] × (head ≡ head_of h)

-- The parts of a target: the scheme and the authority of one that has them, and the path and the query as one text.
pub record Target : Type 0 where
  pub scheme : Option (List ℕ)
  pub authority : Option (List ℕ)
  pub path_and_query : List ℕ

-- The text spells this target, or none. Source: RFC 9112 section 3.2.
abbrev pub IsTarget : List ℕ → Option Target → Type 0
IsTarget text None = (t : Target) → ¬ (IsUriText text t.scheme t.authority t.path_and_query)
IsTarget text (Some t) = IsUriText text t.scheme t.authority t.path_and_query

-- A byte of a host's name.
abbrev pub is_host_byte : ℕ → Bool
is_host_byte b = is_ascii_alphanumeric b || (b == 45) || (b == 46) || (b == 95)

-- A byte of an address between brackets.
abbrev pub is_address_byte : ℕ → Bool
is_address_byte b = is_ascii_hexdigit b || (b == 58) || (b == 46)

-- How many bytes of an authority are its host: up to the first `]` where it begins with `[`, else up to the first `:`.
-- Source: RFC 3986 section 3.2.2.
abbrev pub host_length : List ℕ → ℕ
host_length authority =
    if slice_index authority 0 == 91 then position_or_len (λ b. b == 93) authority + 1
    else position_or_len (λ b. b == 58) authority

-- A host is 1 to 253 letters, digits, `-`, `.` and `_`, or an address in brackets.
abbrev pub is_host : List ℕ → Bool
is_host host =
    if slice_index host 0 == 91 then
    nat_lt 2 (length host) && (slice_index host (length host - 1) == 93)
    && list_all is_address_byte (slice_range host 1 (length host - 1))
    else nat_lt 0 (length host) && nat_le (length host) 253 && list_all is_host_byte host

-- What follows the host: nothing, or `:` and at most five digits of at most 65535. Source: RFC 3986 section 3.2.3.
abbrev pub is_port : List ℕ → Bool
is_port [] = true
is_port (b ∷ digits) =
    (b == 58) && nat_le (length digits) 5 && list_all is_ascii_digit digits && nat_le (digits_value 10 digits) 65535

-- A host and a port, or a host alone. Source: RFC 9110 section 7.2.
abbrev pub is_authority : List ℕ → Bool
is_authority text = is_host (take (host_length text) text) && is_port (drop (host_length text) text)

-- The authority of an absolute target, else that of Host. Source: RFC 9112 section 3.2.2.
abbrev pub authority_of : Target → List (List ℕ) → List ℕ
authority_of t [] = unwrap_or t.authority []
authority_of t (host ∷ hosts) = unwrap_or t.authority host

-- CONNECT and the target `*` aren't served. Source: RFC 9110 section 9.3.6 and RFC 9112 section 3.2.4.
abbrev pub is_unserved : Head → Bool
is_unserved h = bytes_eq h.method (codes "CONNECT") || bytes_eq h.target (codes "*")

-- A target in origin-form, or in absolute-form with `http` or `https`. Source: RFC 9112 sections 3.2.1 and 3.2.2.
abbrev pub is_served_form : Target → Bool
is_served_form t =
    option_map_or (λ scheme. bytes_eq scheme (codes "http") || bytes_eq scheme (codes "https")) t.scheme
    (option_map_or (λ authority. false) t.authority true)

-- Such a target without a `#`.
abbrev pub is_served_target : List ℕ → Option Target → Bool
is_served_target text t = option_map_or is_served_form t false && not (list_any (λ b. b == 35) text)

-- Exactly one Host, which is valid, as is the target's authority. Source: RFC 9112 section 3.2.
abbrev pub has_one_host : List (List ℕ) → Option Target → Bool
has_one_host hosts None = false
has_one_host [] (Some t) = false
has_one_host (host ∷ []) (Some t) = is_authority host && option_map_or is_authority t.authority true
has_one_host (host ∷ second ∷ hosts) (Some t) = false

-- Transfer-Encoding beside Content-Length, or in HTTP/1.0, where a server before this one may have read another body. Source:
-- RFC 9112 sections 6.1 and 6.3.
abbrev pub is_ambiguous : Head → Bool
is_ambiguous h =
    has_field (codes "transfer-encoding") h.fields && (has_field (codes "content-length") h.fields || (h.minor == 0))

-- Transfer-Encoding without `chunked` at its end: the body's length can't be told. Source: RFC 9112 section 6.3.
abbrev pub is_unbounded : List Field → Bool
is_unbounded fields = has_field (codes "transfer-encoding") fields && not (ends_chunked (codings fields))

-- The code by which a head is refused: that of the first test that it fails.
unfoldable pub code_of : Head → Option Target → Option ℕ
code_of h t =
    if nat_lt 100 (length h.fields) then Some 431
    else (if is_unserved h then Some 501
    else (if not (is_served_target h.target t) then Some 400
    else (if not (has_one_host (values_of (codes "host") h.fields) t) then Some 400
    else (if is_ambiguous h then Some 400
    else (if is_unbounded h.fields then Some 400
    else (if nat_lt 1 (length (codings h.fields)) then Some 501
    else (if not (are_one_number (values_of (codes "content-length") h.fields)) then Some 400
    else (if nat_lt 1048576 (number_of (values_of (codes "content-length") h.fields)) then Some 413
    else None))))))))
