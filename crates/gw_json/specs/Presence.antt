-- The words in which the fields of an object are listed, line by line: how a field may be absent, and the form of its value.
use Rattle.std.specs.Prelude.{ℕ, ◌-◌, ◌^◌, List, [], codes, Option, Some, None, Result, Ok, is_some, Bool}
use Rattle.gw_json.specs.declared.refusal.Refusal.{Refusal}
use Rattle.gw_json.specs.declared.refusal.Refusal.TheVariants.{BadValue}
use Rattle.gw_json.specs.Words.{◌>>=◌, or, optional, each}
use Rattle.gw_json.specs.Fields.{Node, field_of, need_of, object_of, items_of, text_of, number_of}

-- The field must be there.
unfoldable pub needed : {A : Type 0} → (Node → Result A Refusal) → List ℕ → Node → Result A Refusal
needed read name at = do
  found ← need_of name at
  read found

-- The field may be absent.
unfoldable pub given : {A : Type 0} → (Node → Result A Refusal) → List ℕ → Node → Result (Option A) Refusal
given read name at = do
  found ← field_of name at
  optional read found

-- What is read where there is something, and else a default.
abbrev pub read_or : {A : Type 0} → A → (Node → Result A Refusal) → Option Node → Result A Refusal
read_or default read None = Ok default
read_or default read (Some found) = read found

-- An absent field has a default.
unfoldable pub defaulted : {A : Type 0} → A → (Node → Result A Refusal) → List ℕ → Node → Result A Refusal
defaulted default read name at = do
  found ← field_of name at
  read_or default read found

-- Whether the field is there, whatever its value.
unfoldable pub is_given : List ℕ → Node → Result Bool Refusal
is_given name at = do
  found ← field_of name at
  Ok (is_some found)

-- A list of at most so many items, each of that form.
unfoldable pub list_of : {A : Type 0} → ℕ → (Node → Result A Refusal) → Node → Result (List A) Refusal
list_of most read at = do
  items ← items_of most at
  each read items

-- A list of at most so many items, each of that form; an absent one is empty.
abbrev pub listed : {A : Type 0} → ℕ → (Node → Result A Refusal) → List ℕ → Node → Result (List A) Refusal
listed most read = defaulted [] (list_of most read)

-- An object.
unfoldable pub node_of_object : Node → Result Node Refusal
node_of_object at = do
  _ ← object_of at
  Ok at

-- The spec of an object, which must be there and be an object.
abbrev pub spec_of : Node → Result Node Refusal
spec_of at = needed node_of_object (codes "spec") at

-- A text of at most so many bytes, and what it gives; one that gives nothing isn't of the form.
unfoldable pub parsed : {A : Type 0} → ℕ → (List ℕ → Option A) → Node → Result A Refusal
parsed most value at = do
  text ← text_of most at
  or (BadValue at.path) (value text)

-- A text or list of any length has at most as many bytes or items as a word of memory can count.
abbrev pub any_length : ℕ
any_length = 2 ^ 64 - 1

-- The number of a port. Source: PortNumber of the Gateway API reference.
abbrev pub port_of : Node → Result ℕ Refusal
port_of = number_of 1 65535
