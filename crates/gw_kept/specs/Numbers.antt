-- How the maps of numbers are read.
use Rattle.std.specs.Prelude.{ℕ, List, [], Vec}
use Rattle.std.specs.Option.{option_map_or}
use Rattle.std.specs.Vec.{vec_items}
use Rattle.std.specs.declared.alloc.Global.{Global}
use Rattle.gw_shared.specs.model.Buckets.{value_at}
use Rattle.gw_shared.specs.model.Entries.{Entry}
use Rattle.gw_text.specs.model.Names.{Key}

-- The numbers of the Gateway of a name, among those of its namespace.
abbrev pub at_name : List (List (Entry (Vec ℕ Global))) → List ℕ → List ℕ
at_name names name = option_map_or vec_items (value_at names name) []

-- Those of a namespace and a name.
abbrev pub at_namespace : List (List (Entry (List (List (Entry (Vec ℕ Global)))))) → List ℕ → List ℕ → List ℕ
at_namespace namespaces namespace name = option_map_or (λ names. at_name names name) (value_at namespaces namespace) []

-- Those of a key.
abbrev pub at_key : List (List (Entry (List (List (Entry (Vec ℕ Global)))))) → Key → List ℕ
at_key namespaces key = at_namespace namespaces key.namespace key.name
