-- Who serves connections.
use Rattle.std.specs.Prelude.{ℕ, List}
use Rattle.gw_answers.specs.declared.books.Books.{Books}
use Rattle.gw_snap.specs.Lists.{Seen}
use Rattle.gw_store.specs.declared.event.Entry.{Entry}
use Rattle.gw_text.specs.model.Doors.{Door}

-- A place from which tables are read. All of them have the same doors and the same controller's name.
abbrev pub Pass : Type 0
Pass = Seen Entry (List Door × List ℕ)

-- A worker: its pass, and the books of its picks.
pub record Worker : Type 0 where
  pub pass : Pass
  pub books : Books
