-- What edits make of the fields of a message. Source: HTTPHeaderFilter of the Gateway API reference.
use Rattle.std.specs.Prelude.{ℕ, List, [], ◌∷◌, ◌++◌, filter, codes, Bool, true, false, not, ◌&&◌, ◌||◌, Option, Some, None}
use Rattle.std.specs.List.{list_any}
use Rattle.gw_text.specs.model.Fields.{Field, same_field_name}
use Rattle.gw_text.specs.model.Filters.{Edits}
use Rattle.gw_messages.specs.model.Values.{has_field, values_of}

-- The first of these texts, if there is one.
abbrev pub first_text : List (List ℕ) → Option (List ℕ)
first_text [] = None
first_text (text ∷ texts) = Some text

-- The value that entries give to a name: of entries with equivalent names the first counts. Source: HTTPHeader, name: "If multiple
-- entries specify equivalent header names, the first entry with an equivalent name MUST be considered for a match."
abbrev pub value_for : List Field → List ℕ → Option (List ℕ)
value_for entries name = first_text (values_of name entries)

-- The entries that count: the first of each name.
abbrev pub first_entries : List Field → List Field
first_entries [] = []
first_entries (entry ∷ entries) =
    entry ∷ filter (λ other. not (same_field_name other.name entry.name)) (first_entries entries)

-- A field that a value is set for: it gets the value where it is the first of its name, and else it is dropped.
abbrev pub set_field : Field → Option (List ℕ) → Bool → List Field
set_field f None is_first = f ∷ []
set_field f (Some value) false = []
set_field f (Some value) true = (record { name = f.name; value = value }) ∷ []

-- No field here has the name of the entry.
abbrev pub is_new_to : List Field → Field → Bool
is_new_to fields entry = not (has_field entry.name fields)

-- The fields that stand behind others, where these entries are set.
abbrev pub set_behind : List Field → List Field → List Field → List Field
set_behind entries before [] = []
set_behind entries before (f ∷ fields) =
    set_field f (value_for entries f.name) (not (has_field f.name before)) ++ set_behind entries (before ++ f ∷ []) fields

-- Set: the value stands at the place of the first field of its name, and the others of that name are dropped; where there is none,
-- a field is appended. Source: HTTPHeaderFilter, set: "overwrites the request with the given header".
abbrev pub with_set : List Field → List Field → List Field
with_set entries fields =
    set_behind entries [] fields ++ filter (is_new_to fields) (first_entries entries)

-- Lists of this name can't be joined by commas. Source: RFC 9110 section 5.3.
abbrev pub is_set_cookie : List ℕ → Bool
is_set_cookie name = same_field_name name (codes "set-cookie")

-- A field that a value is added for: the last one of its name has it behind a comma.
abbrev pub joined : Field → Option (List ℕ) → Bool → Field
joined f None is_last = f
joined f (Some value) false = f
joined f (Some value) true = record { name = f.name; value = f.value ++ codes "," ++ value }

-- The fields, where these entries are added to those that are there.
abbrev pub added_to : List Field → List Field → List Field
added_to entries [] = []
added_to entries (f ∷ fields) =
    joined f (value_for entries f.name) (not (has_field f.name fields) && not (is_set_cookie f.name)) ∷ added_to entries fields

-- The entry's value can't be joined to a field here.
abbrev pub is_apart_from : List Field → Field → Bool
is_apart_from fields entry = is_set_cookie entry.name || is_new_to fields entry

-- Add: the value stands behind a comma in the last field of its name; where there is none, and always for `set-cookie`, a field is
-- appended. Source: HTTPHeaderFilter, add: "It appends to any existing values associated with the header name."
abbrev pub with_added : List Field → List Field → List Field
with_added entries fields =
    added_to entries fields ++ filter (is_apart_from fields) (first_entries entries)

-- Remove: no field of these names is left. Source: HTTPHeaderFilter, remove.
abbrev pub with_removed : List (List ℕ) → List Field → List Field
with_removed names fields = filter (λ f. not (list_any (same_field_name f.name) names)) fields

-- The fields after the edits: set, then add, then remove.
unfoldable pub edited : Edits → List Field → List Field
edited e fields = with_removed e.remove (with_added e.add (with_set e.set fields))
