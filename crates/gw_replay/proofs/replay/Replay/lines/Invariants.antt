-- What the lines so far did, and then the rest do, is what all do, and so where a script is given up in the rest.
use Rattle.std.proofs.Common.{ℤ, ◌+◌, ◌≤◌, List, length, Option}
use Rattle.std.specs.Option.{option_copied}
use Rattle.gw_store.specs.Lines.{lines_of, lines_left}
use Rattle.gw_report.proofs.Applying.{left_size}
use Rattle.gw_replay.specs.States.{IsKept, RunsTo, StopsIn}
use Rattle.gw_replay.specs.declared.replay.Replay.{Replay}
use Rattle.gw_replay.specs.declared.stop.Stop.{Stop}
use Rattle.gw_replay.proofs.replay.Replay.lines.Given as goal

abbrev pub invariant-lines : goal.invariant-lines
invariant-lines g l = record {
  runs : (after : Option (List ℤ)) (new : Replay g.row.R.Denot) →
      RunsTo l.number (lines_left (option_copied l.rest)) (g.C.Clock.moments l.clock) after l.self new →
      RunsTo 1 (lines_of l.input) (g.C.Clock.moments l.fn.clock) after l.fn.self new;
  stops : (stop : Stop) (new : Replay g.row.R.Denot) →
      StopsIn stop l.number (lines_left (option_copied l.rest)) (g.C.Clock.moments l.clock) l.self new →
      StopsIn stop 1 (lines_of l.input) (g.C.Clock.moments l.fn.clock) l.fn.self new;
  kept : IsKept l.self;
  few : l.number + left_size (option_copied l.rest) ≤ length l.input + 2;
  few_counted : l.self.refused + l.self.skipped + 1 ≤ l.number;
}

abbrev pub decreases-lines : goal.decreases-lines
decreases-lines g l = left_size (option_copied l.rest)
