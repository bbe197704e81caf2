-- Under which address the row of a Route stands, so that the rows that a request may fit are found by its host and path.
use Rattle.std.specs.Prelude.{ℕ, List, [], ◌∷◌, Bool, true, false, ◌&&◌, bytes_eq, Option, Some, None, if◌then◌else◌}
use Rattle.gw_rows.specs.model.Precedence.{is_exact_type}
use Rattle.gw_rows.specs.model.Rows.{Row}
use Rattle.gw_text.specs.model.Hostnames.{Host}
use Rattle.gw_text.specs.model.Matches.{PathMatch}
use Rattle.gw_text.specs.model.Paths.{without_slash}

-- The byte `.`.
abbrev pub DOT : ℕ
DOT = 46

-- The name of a hostname: a precise one's is itself, a wildcard's is what follows its `*`, and none has the empty name.
abbrev pub name_of : Option Host → List ℕ
name_of None = []
name_of (Some h) = if h.wild then DOT ∷ h.text else h.text

-- A path, and whether it is asked for exactly or as a prefix.
pub record Place : Type 0 where
  pub is_exact : Bool
  pub path : List ℕ

-- The place of a path match. A prefix stands without the slash at its end, so `/abc` and `/abc/` have one place.
abbrev pub place_of : PathMatch → Place
place_of m = if is_exact_type m.sort then record { is_exact = true; path = m.value } else record { is_exact = false; path = without_slash m.value }

-- Both are exact, or neither is.
abbrev pub same_kind : Bool → Bool → Bool
same_kind is_exact other = if is_exact then other else (if other then false else true)

-- Equal places.
abbrev pub same_place : Place → Place → Bool
same_place p other = same_kind p.is_exact other.is_exact && bytes_eq p.path other.path

-- The name of a hostname, and a place.
pub record Address : Type 0 where
  pub name : List ℕ
  pub place : Place

-- Equal addresses.
abbrev pub same_address : Address → Address → Bool
same_address a other = bytes_eq a.name other.name && same_place a.place other.place

-- The address of a row.
abbrev pub address_of : Row → Address
address_of r = record { name = name_of r.hostname; place = place_of r.test.path }

-- The row stands at this address.
abbrev pub stands_at : Address → Row → Bool
stands_at a r = same_address a (address_of r)
