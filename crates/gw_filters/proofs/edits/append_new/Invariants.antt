-- What is appended so far, and what is left behind it, is what was to be appended.
use Rattle.std.proofs.Common.{◌≡◌, ◌++◌, drop, take, filter}
use Rattle.gw_filters.specs.model.Editing.{first_entries, is_new_to}
use Rattle.gw_filters.proofs.Entries.{left_behind}
use Rattle.gw_filters.proofs.edits.append_new.Given as goal

abbrev pub invariant-entries : goal.invariant-entries
invariant-entries l =
    l.set ++ left_behind (is_new_to l.fields) (take l.index l.entries) (drop l.index l.entries)
    ≡ l.fn.set ++ filter (is_new_to l.fields) (first_entries l.entries)
