use Rattle.std.proofs.Common.{◌-◌, ◌≤◌}
use Rattle.gw_messages.specs.Searches.{IsHeadSearch}
use Rattle.gw_messages.proofs.section.Search.find_head.Given as goal

abbrev pub invariant-lines : goal.invariant-lines
invariant-lines l = record {
  search : IsHeadSearch l.self l.bytes;
  further : l.fn.self.seen ≤ l.self.seen;
  blank : l.fn.self.blank ≤ l.self.blank;
}

abbrev pub decreases-lines : goal.decreases-lines
decreases-lines l = l.stop - l.self.seen
