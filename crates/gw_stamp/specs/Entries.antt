-- What is kept of conditions, in the order of their names.
use Rattle.std.specs.Prelude.{pos, List, false, option_map, find}
use Rattle.std.specs.List.Sorted.{IsStrictlySortedBy}
use Rattle.std.specs.declared.cmp.Ordering.{Ordering}
use Rattle.gw_stamp.specs.declared.entry.Entry.{Entry}
use Rattle.gw_stamp.specs.Names.{CondName, name_order, same_name}
use Rattle.gw_stamp.specs.Stamping.{Stamp, Stamps}

-- The order of entries is that of their names.
abbrev pub entry_order : Entry → Entry → Ordering
entry_order a b = name_order a.name b.name

-- An entry of this name.
abbrev pub entry_of : CondName → Entry
entry_of name = record { name = name; truth = false; since = pos 0 }

-- The stamp of an entry.
abbrev pub stamp_of : Entry → Stamp
stamp_of e = record { truth = e.truth; since = e.since }

-- What entries say of a condition.
abbrev pub stamp_at : List Entry → Stamps
stamp_at entries name = option_map stamp_of (find (λ e. same_name e.name name) entries)

-- Entries stand in the order of their names, none of which is there twice.
abbrev pub IsInOrder : List Entry → Type 0
IsInOrder entries = IsStrictlySortedBy entry_order entries

-- The entries before a change, and those after it.
pub record Patch : Type 0 where
  pub before : List Entry
  pub after : List Entry
