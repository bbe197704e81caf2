-- The counts are those of the statuses so far, none above their number.
use Rattle.std.proofs.Common.{◌≡◌, take}
use Rattle.gw_replay.specs.Lines.{counts_of}
use Rattle.gw_replay.specs.States.{AreAtMost}
use Rattle.gw_replay.proofs.totals.counts_of.Given as goal

abbrev pub invariant-statuses : goal.invariant-statuses
invariant-statuses l = record {
  counted : l.counts.items ≡ counts_of (take l.status-index l.statuses);
  few : AreAtMost l.status-index l.counts.items;
}
