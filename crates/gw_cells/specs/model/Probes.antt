-- At which addresses the rows that fit a request are looked for, those first whose rows stand before the others.
use Rattle.std.specs.Prelude.{ℕ, zero, suc, ◌+◌, ◌*◌, List, [], ◌∷◌, Bool, true, false, ◌==◌, map, length, take, count_by, slice_index, if◌then◌else◌}
use Rattle.gw_frames.specs.model.Requests.{Request}
use Rattle.gw_text.specs.model.Paths.{SLASH}
use Rattle.gw_cells.specs.model.Addresses.{DOT, Place}

-- The names of the wildcards above a host, the longest first: what begins with each of its dots. Behind them stands the empty name.
abbrev pub names_above : List ℕ → List (List ℕ)
names_above [] = [] ∷ []
names_above (b ∷ host) = if b == DOT then (b ∷ host) ∷ names_above host else names_above host

-- The names of the hostnames that may cover a host: "a precise domain name ... or a domain name prefixed with a single wildcard
-- label". Source: Hostname of the Gateway API reference.
abbrev pub names_for : List ℕ → List (List ℕ)
names_for host = host ∷ names_above host

-- A slash stands there.
abbrev pub is_slash_at : List ℕ → ℕ → Bool
is_slash_at path i = slice_index path i == SLASH

-- What stands before each slash among the first bytes of a path, the longest first.
abbrev pub fronts : List ℕ → ℕ → List (List ℕ)
fronts path zero = []
fronts path (suc n) = if is_slash_at path n then take n path ∷ fronts path n else fronts path n

-- A path asked for as a prefix.
abbrev pub prefix_place : List ℕ → Place
prefix_place path = record { is_exact = false; path = path }

-- The places of the path matches that may fit a path: the path itself exactly, then it and each prefix by elements.
-- Source: PathMatchType.
abbrev pub places_for : List ℕ → List Place
places_for path = record { is_exact = true; path = path } ∷ map prefix_place (path ∷ fronts path (length path))

-- How many labels a host has: what stands between its dots.
abbrev pub label_count : List ℕ → ℕ
label_count host = count_by (λ b. b == DOT) host + 1

-- How many elements a path has, each with the slash before it.
abbrev pub element_count : List ℕ → ℕ
element_count path = count_by (λ b. b == SLASH) path

-- How many probes a host and a path take at most: one for each name, and for each of these for each place.
abbrev pub most_at : List ℕ → List ℕ → ℕ
most_at host path = (label_count host + 1) * (element_count path + 2)

-- How many of them one name takes at most.
abbrev pub most_for_name : Request → ℕ
most_for_name q = element_count q.path + 2

-- How many probes a request takes at most.
abbrev pub most_probes : Request → ℕ
most_probes q = most_at q.host q.path
