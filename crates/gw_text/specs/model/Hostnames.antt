-- Hostnames of listeners and Routes.
use Rattle.std.specs.Prelude.{ℕ, ◌+◌, List, [], ◌∷◌, ◌++◌, Bool, true, false, not, Option, Some, None, IsTrue, ◌&&◌, ◌||◌, nat_eq, nat_lt, length, codes, if◌then◌else◌}
use Rattle.std.specs.List.{ends_with, list_any}
use Rattle.std.specs.Str.{bytes_eq}

-- A hostname: precise, or a wildcard with the text after its `*.`. Source: Hostname of the Gateway API reference.
pub record Host : Type 0 where
  pub wild : Bool
  pub text : List ℕ

-- A name ends with a dot and this text.
abbrev pub is_below : List ℕ → List ℕ → Bool
is_below name text = ends_with nat_eq name (codes "." ++ text)

-- A precise hostname covers the equal name. A wildcard is "interpreted as a suffix match": `*.example.com` covers
-- `test.example.com` and `foo.test.example.com`, and not `example.com`. Source: Hostname and HTTPRouteSpec.hostnames.
abbrev pub covers : Host → List ℕ → Bool
covers h name =
    if h.wild then nat_lt (length h.text + 1) (length name) && is_below name h.text
    else bytes_eq name h.text

-- Whether two hostnames have a name in common: equal precise ones; a wildcard and a precise one that it covers; two
-- wildcards of which one's suffix is the other's or lies below it. Source: HTTPRouteSpec.hostnames.
abbrev pub meets : Host → Host → Bool
meets a b =
    if a.wild then
    (if b.wild then bytes_eq a.text b.text || is_below a.text b.text || is_below b.text a.text else covers a b.text)
    else (if b.wild then covers b a.text else bytes_eq a.text b.text)

-- An absent hostname of a listener or an empty list of a Route meets everything. Source: Listener.hostname and
-- HTTPRouteSpec.hostnames.
abbrev pub meets_some : Option Host → List Host → Bool
meets_some None hosts = true
meets_some (Some h) [] = true
meets_some (Some h) (x ∷ hosts) = list_any (meets h) (x ∷ hosts)

-- Equal hostnames.
abbrev pub same_host : Host → Host → Bool
same_host a b = (if a.wild then b.wild else not b.wild) && bytes_eq a.text b.text

-- Equal hostnames of listeners; two absent ones are equal.
abbrev pub same_hostname : Option Host → Option Host → Bool
same_hostname None None = true
same_hostname (Some a) (Some b) = same_host a b
same_hostname None (Some b) = false
same_hostname (Some a) None = false

-- Some name is covered by both.
abbrev pub HaveCommonName : Host → Host → Type 0
HaveCommonName a b = (name : List ℕ) × IsTrue (covers a name) × IsTrue (covers b name)

-- Characters of a precise hostname; a wildcard counts 0.
abbrev pub precise_length : Host → ℕ
precise_length h = if h.wild then 0 else length h.text

-- Characters of a hostname as it is written, with the two of `*.`.
abbrev pub written_length : Host → ℕ
written_length h = if h.wild then length h.text + 2 else length h.text
