-- The first workers have learnt, and all are of the opening, with the picks that they had.
use Rattle.std.proofs.Common.{◌≡◌, ℕ, List}
use Rattle.gw_store.specs.declared.event.Entry.{Entry}
use Rattle.gw_text.specs.model.Doors.{Door}
use Rattle.gw_replay.specs.States.{HaveSeen, picks_of}
use Rattle.gw_replay.proofs.Keeping.{FirstSeen}
use Rattle.gw_replay.proofs.publications.learn_all.Given as goal

abbrev pub invariant-workers : goal.invariant-workers
invariant-workers l = record {
  list : l.note.list ≡ l.fn.note.list;
  book : l.note.book ≡ l.fn.note.book;
  picks : picks_of l.workers ≡ picks_of l.fn.workers;
  seen : (list : List Entry) (fixed : List Door × List ℕ) → HaveSeen list fixed l.fn.note.book l.fn.workers → FirstSeen l.place l.fn.note.list fixed l.fn.note.book l.workers;
}
