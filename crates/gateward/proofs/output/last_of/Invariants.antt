-- The last line so far, then the lines that are left, have the last line of all.
use Rattle.std.proofs.Common.{◌≡◌, [], fold}
use Rattle.std.specs.Option.{option_copied}
use Rattle.gw_store.specs.Lines.{lines_of, lines_left}
use Rattle.gw_report.proofs.Applying.{left_size}
use Rattle.gateward.specs.Outputs.{later}
use Rattle.gateward.proofs.output.last_of.Given as goal

abbrev pub invariant-lines : goal.invariant-lines
invariant-lines l = fold later l.last (lines_left (option_copied l.rest)) ≡ fold later [] (lines_of l.text)

abbrev pub decreases-lines : goal.decreases-lines
decreases-lines l = left_size (option_copied l.rest)
