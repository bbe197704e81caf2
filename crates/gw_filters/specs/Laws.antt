-- What users rely on of edits, in words of names and values.
use Rattle.std.specs.Prelude.{◌≡◌, ℕ, List, [], ◌∷◌, filter, Bool, true, false, not, ◌||◌, Some}
use Rattle.std.specs.List.{list_any}
use Rattle.gw_text.specs.model.Fields.{Field, same_field_name}
use Rattle.gw_text.specs.model.Filters.{Edits}
use Rattle.gw_messages.specs.model.Values.{has_field, values_of}
use Rattle.gw_filters.specs.model.Editing.{value_for}

-- The edits remove this name.
abbrev pub removes : Edits → List ℕ → Bool
removes e name = list_any (same_field_name name) e.remove

-- The edits set, add or remove this name.
abbrev pub edits_name : Edits → List ℕ → Bool
edits_name e name = has_field name e.set || has_field name e.add || removes e name

-- The fields whose names the edits don't have are the same, in the same order.
abbrev pub KeepsOthers : Edits → List Field → List Field → Type 0
KeepsOthers e before after = filter (λ f. not (edits_name e f.name)) after ≡ filter (λ f. not (edits_name e f.name)) before

-- No field of a removed name is left.
abbrev pub HasNoRemoved : Edits → List Field → Type 0
HasNoRemoved e after = (name : List ℕ) → removes e name ≡ true → values_of name after ≡ []

-- A name that is set, and not added or removed, has exactly one field, with the value that is set.
abbrev pub HasEachSet : Edits → List Field → Type 0
HasEachSet e after = (name value : List ℕ) → value_for e.set name ≡ Some value → has_field name e.add ≡ false → removes e name ≡ false
    → values_of name after ≡ value ∷ []
