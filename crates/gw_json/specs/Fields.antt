-- The fields of an object that was read, by the conventions of the Kubernetes API: a null field is an absent one.
-- What is not as it must be gives a refusal with its path.
use Rattle.std.specs.Prelude.{ℕ, ◌+◌, ◌&&◌, ◌||◌, Bool, List, [], ◌∷◌, length, nat_le, if◌then◌else◌, Option, Some, None, is_some, Result, Ok, String, string_bytes, ⊤}
use Rattle.std.specs.declared.alloc.Global.{Global}
use Rattle.std.specs.Cmp.Lexicographic.{slice_cmp}
use Rattle.std.specs.List.Sorted.{IsStrictlySortedBy}
use Rattle.std.specs.Map.{keys_of}
use Rattle.std.specs.Ordering.{nat_cmp}
use Rattle.serde_json.specs.Data.{Data, Num, Items, no_items, item, Members, no_members, member}
use Rattle.serde_json.specs.Find.{get, as_null, as_bool, as_number, as_str, as_array, as_object, as_u64, as_i64}
use Rattle.serde_json.specs.Events.{items_len, members_len}
use Rattle.serde_json.specs.View.{view}
use Rattle.gw_json.specs.declared.refusal.Refusal.{Refusal}
use Rattle.gw_json.specs.declared.refusal.Refusal.TheVariants.{Missing, WrongType, BadValue, TooLong}
use Rattle.gw_json.specs.declared.cursor.Cursor.{Cursor}
use Rattle.gw_json.specs.Words.{◌>>=◌, or, want}
use Rattle.gw_json.specs.Paths.{member_path, item_path}

-- A value and the path at which it stands.
pub record Node : Type 0 where
  pub value : Data
  pub path : List ℕ

-- what a cursor stands for
abbrev pub node_of : Cursor → Node
node_of c = record { value = view c.value.now; path = c.path }

-- what a member's name and cursor stand for
abbrev pub named_node : String Global × Cursor → List ℕ × Node
named_node m = (string_bytes m.0, node_of m.1)

-- What a field of that path holds; a null field is an absent field.
abbrev pub present : List ℕ → Option Data → Option Node
present path None = None
present path (Some d) = if is_some (as_null d) then None else Some (record { value = d; path = path })

-- The value is an object.
unfoldable pub object_of : Node → Result ⊤ Refusal
object_of at = want (WrongType at.path) (is_some (as_object at.value))

-- How many members the object has, null ones included.
unfoldable pub count_of : Node → Result ℕ Refusal
count_of at = do
  members ← or (WrongType at.path) (as_object at.value)
  Ok (members_len members)

-- The field of that name, if it is there.
unfoldable pub field_of : List ℕ → Node → Result (Option Node) Refusal
field_of name at = do
  _ ← object_of at
  Ok (present (member_path at.path name) (get name at.value))

-- The field of that name, which must be there.
unfoldable pub need_of : List ℕ → Node → Result Node Refusal
need_of name at = do
  found ← field_of name at
  or (Missing (member_path at.path name)) found

-- the items of a list, the first of them the one with this index
abbrev pub nodes_from : List ℕ → ℕ → Items → List Node
nodes_from path index no_items = []
nodes_from path index (item d ds) = record { value = d; path = item_path path index } ∷ nodes_from path (index + 1) ds

-- A list of at most so many items.
unfoldable pub items_of : ℕ → Node → Result (List Node) Refusal
items_of most at = do
  items ← or (WrongType at.path) (as_array at.value)
  _ ← want (TooLong at.path) (nat_le (items_len items) most)
  Ok (nodes_from at.path 0 items)

-- A text of at most so many bytes.
unfoldable pub text_of : ℕ → Node → Result (List ℕ) Refusal
text_of most at = do
  text ← or (WrongType at.path) (as_str at.value)
  _ ← want (TooLong at.path) (nat_le (length text) most)
  Ok text

-- A number is whole exactly where `serde_json` gives it as a u64 or an i64.
abbrev pub is_whole : Num → Bool
is_whole n = is_some (as_u64 n) || is_some (as_i64 n)

-- A whole number from least to most, both included.
unfoldable pub number_of : ℕ → ℕ → Node → Result ℕ Refusal
number_of least most at = do
  n ← or (WrongType at.path) (as_number at.value)
  _ ← want (WrongType at.path) (is_whole n)
  whole ← or (BadValue at.path) (as_u64 n)
  _ ← want (BadValue at.path) (nat_le least whole && nat_le whole most)
  Ok whole

-- True or false.
unfoldable pub truth_of : Node → Result Bool Refusal
truth_of at = or (WrongType at.path) (as_bool at.value)

-- the members of an object with their names, null ones included
abbrev pub named_from : List ℕ → Members → List (List ℕ × Node)
named_from path no_members = []
named_from path (member name d ms) = (name, record { value = d; path = member_path path name }) ∷ named_from path ms

-- The members of an object, in the byte order of their names, null ones included.
unfoldable pub members_of : Node → Result (List (List ℕ × Node)) Refusal
members_of at = do
  members ← or (WrongType at.path) (as_object at.value)
  Ok (named_from at.path members)

-- The names ascend byte by byte, each once.
abbrev pub IsInByteOrder : List (List ℕ × Node) → Type 0
IsInByteOrder members = IsStrictlySortedBy (slice_cmp nat_cmp) (keys_of members)
