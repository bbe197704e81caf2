-- The forms that names, namespaces and hostnames have, and how a text is printed.
use Rattle.std.specs.Prelude.{ℕ, ◌-◌, List, [], ◌++◌, length, take, drop, slice_index, Bool, true, false, not, ◌&&◌, ◌||◌, ◌==◌, if◌then◌else◌, nat_le, bytes_eq, codes, encode_utf8_all, Option, Some, None}
use Rattle.std.specs.Char.{is_ascii_lowercase, is_ascii_digit}
use Rattle.std.specs.List.{list_all, slice_split, before_first, after_first}
use Rattle.std.specs.Str.{is_utf8}
use Rattle.gw_text.specs.model.Names.{Key, is_given}
use Rattle.gw_text.specs.model.Hostnames.{Host}

-- A lower-case letter or a digit. Source: "lowercase alphanumeric characters" of the names of Kubernetes objects.
abbrev pub is_alphanumeric : ℕ → Bool
is_alphanumeric b = is_ascii_lowercase b || is_ascii_digit b

-- The text begins and ends with a letter or digit, and so isn't empty.
abbrev pub has_alphanumeric_ends : List ℕ → Bool
has_alphanumeric_ends t = is_alphanumeric (slice_index t 0) && is_alphanumeric (slice_index t (length t - 1))

-- A byte of a label: a letter, a digit or `-`, which is 45.
abbrev pub is_label_byte : ℕ → Bool
is_label_byte b = is_alphanumeric b || (b == 45)

-- A dot, which stands between the labels of a name.
abbrev pub is_dot : ℕ → Bool
is_dot b = b == 46

-- An RFC 1123 label: at most 63 letters, digits and `-`, the first and the last a letter or digit.
abbrev pub is_label : List ℕ → Bool
is_label t = nat_le (length t) 63 && list_all is_label_byte t && has_alphanumeric_ends t

-- The name of an object, which Kubernetes calls an RFC 1123 subdomain: at most 253 letters, digits, `-` and `.`, the
-- first and the last a letter or digit.
abbrev pub is_name : List ℕ → Bool
is_name t = nat_le (length t) 253 && list_all (λ b. is_label_byte b || is_dot b) t && has_alphanumeric_ends t

-- The name that a text gives.
abbrev pub name_of : List ℕ → Option (List ℕ)
name_of t = if is_name t then Some t else None

-- The name of a namespace is one label.
abbrev pub is_namespace : List ℕ → Bool
is_namespace t = is_label t

-- The name of a namespace, or nothing, for objects of kinds without one.
abbrev pub is_namespace_or_none : List ℕ → Bool
is_namespace_or_none t = not (is_given t) || is_namespace t

-- The name of a namespace that a text gives.
abbrev pub namespace_of : List ℕ → Option (List ℕ)
namespace_of t = if is_namespace t then Some t else None

-- The key that an object may have.
abbrev pub is_key : Key → Bool
is_key k = is_namespace_or_none k.namespace && is_name k.name

-- A hostname without a wildcard: labels with dots between them, at most 253 bytes in all. Source: RFC 1123 section 2.1,
-- and PreciseHostname of the Gateway API reference.
abbrev pub is_precise_hostname : List ℕ → Bool
is_precise_hostname t = nat_le (length t) 253 && list_all is_label (slice_split is_dot t)

-- A wildcard: `*.` before a hostname, at most 253 bytes in all.
abbrev pub is_wildcard : List ℕ → Bool
is_wildcard t = nat_le (length t) 253 && bytes_eq (take 2 t) (codes "*.") && is_precise_hostname (drop 2 t)

-- A hostname of a listener or a Route. Source: Hostname of the Gateway API reference.
abbrev pub is_hostname : List ℕ → Bool
is_hostname t = is_precise_hostname t || is_wildcard t

-- The hostname that a text names.
abbrev pub host_of : List ℕ → Option Host
host_of t =
    if is_precise_hostname t then Some (record { wild = false; text = t })
    else (if is_wildcard t then Some (record { wild = true; text = drop 2 t }) else None)

-- The text of a hostname, as it was written.
abbrev pub host_text : Host → List ℕ
host_text h = (if h.wild then codes "*." else []) ++ h.text

-- A slash, which stands between namespace and name.
abbrev pub is_slash : ℕ → Bool
is_slash b = b == 47

-- The key that a text `namespace/name` names.
abbrev pub key_of : List ℕ → Option Key
key_of t =
    if is_namespace (before_first is_slash t) && is_name (after_first is_slash t)
    then Some (record { namespace = before_first is_slash t; name = after_first is_slash t })
    else None

-- How a text is printed: as it is in UTF-8, else each byte as the character of its number.
abbrev pub printed : List ℕ → List ℕ
printed t = if is_utf8 t then t else encode_utf8_all t
