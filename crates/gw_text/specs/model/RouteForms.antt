-- The forms that texts in the fields of an HTTPRoute have.
use Rattle.std.specs.Prelude.{ℕ, List, [], ◌∷◌, length, Bool, not, ◌&&◌, ◌||◌, ◌==◌, nat_eq, nat_le, codes}
use Rattle.std.specs.Char.{is_ascii_alphanumeric}
use Rattle.std.specs.List.{list_all, list_any, starts_with, ends_with}

-- A byte of a token. Source: tchar of RFC 9110 section 5.6.2.
unfoldable pub is_token_byte : ℕ → Bool
is_token_byte b = is_ascii_alphanumeric b || list_any (λ c. c == b) (codes "!#$%&'*+-.^_`|~")

-- One such byte or more. Source: token of RFC 9110 section 5.6.2.
abbrev pub is_token : List ℕ → Bool
is_token t = nat_le 1 (length t) && list_all is_token_byte t

-- The name of a field: a token of at most 256 bytes. Source: RFC 9110 section 5.1, and HTTPHeaderName of the Gateway API
-- reference.
abbrev pub is_field_name : List ℕ → Bool
is_field_name t = nat_le (length t) 256 && is_token t

-- A byte of a field's value: no control character but the tab, which is 9. Source: RFC 9110 section 5.5.
abbrev pub is_value_byte : ℕ → Bool
is_value_byte b = b == 9 || (nat_le 32 b && not (b == 127))

-- The value of a field, of at most 4,096 bytes. Source: RFC 9110 section 5.5, and HTTPHeader of the Gateway API reference.
abbrev pub is_field_value : List ℕ → Bool
is_field_value t = nat_le (length t) 4096 && list_all is_value_byte t

-- A byte of a path: visible ASCII, and neither `?`, which is 63, nor `#`, which is 35; these end a path.
-- Source: RFC 3986 section 3.
abbrev pub is_path_byte : ℕ → Bool
is_path_byte b = nat_le 33 b && nat_le b 126 && not (b == 63) && not (b == 35)

-- This part stands somewhere in the text.
abbrev pub has : List ℕ → List ℕ → Bool
has [] part = starts_with nat_eq [] part
has (b ∷ t) part = starts_with nat_eq (b ∷ t) part || has t part

-- What no path has in it: empty segments, dot segments and encoded slashes.
abbrev pub has_unwanted : List ℕ → Bool
has_unwanted t = has t (codes "//") || has t (codes "/./") || has t (codes "/../") || has t (codes "%2f") || has t (codes "%2F")

-- A path does not end with a dot segment.
abbrev pub has_dot_end : List ℕ → Bool
has_dot_end t = ends_with nat_eq t (codes "/.") || ends_with nat_eq t (codes "/..")

-- The path of an Exact or PathPrefix match: absolute, normal, of at most 1,024 bytes. Source: HTTPPathMatch of the Gateway
-- API reference and its validation.
abbrev pub is_path : List ℕ → Bool
is_path t = nat_le (length t) 1024 && starts_with nat_eq t (codes "/") && list_all is_path_byte t && not (has_unwanted t) && not (has_dot_end t)

-- What replaces a path or the matched prefix of it, of at most 1,024 bytes. Source: HTTPPathModifier of the Gateway API
-- reference.
abbrev pub is_replacement : List ℕ → Bool
is_replacement t = nat_le (length t) 1024 && list_all is_path_byte t

-- The name of a query parameter: at least one byte, at most 256. Source: HTTPQueryParamMatch of the Gateway API reference.
abbrev pub is_parameter_name : List ℕ → Bool
is_parameter_name t = nat_le 1 (length t) && nat_le (length t) 256
