-- What came of the lines so far, and then of the rest, is what comes of all.
use Rattle.std.proofs.Common.{ℤ, ◌+◌, ◌≤◌, List, length, Option}
use Rattle.std.specs.Option.{option_copied}
use Rattle.gw_store.specs.Lines.{lines_of, lines_left}
use Rattle.gw_report.specs.Reports.{Applies, IsReport}
use Rattle.gw_report.specs.declared.report.Report.{Report}
use Rattle.gw_report.proofs.Applying.{left_size}
use Rattle.gw_report.proofs.report.apply_lines.Given as goal

abbrev pub invariant-lines : goal.invariant-lines
invariant-lines g l = record {
  report : (after : Option (List ℤ)) (new : Report) →
      Applies l.number (lines_left (option_copied l.rest)) (g.C.Clock.moments l.clock) after l.report new →
      IsReport (lines_of l.input) (g.C.Clock.moments l.fn.clock) after new;
  few : l.number + left_size (option_copied l.rest) ≤ length l.input + 2;
  few_counted : l.report.refused + l.report.skipped + 1 ≤ l.number;
}

abbrev pub decreases-lines : goal.decreases-lines
decreases-lines g l = left_size (option_copied l.rest)
