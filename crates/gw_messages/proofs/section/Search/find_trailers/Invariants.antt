use Rattle.std.proofs.Common.{◌≡◌, ◌-◌, ◌≤◌}
use Rattle.gw_messages.specs.model.Sections.{ends_trailers}
use Rattle.gw_messages.specs.Searches.{IsSearch}
use Rattle.gw_messages.proofs.section.Search.find_trailers.Given as goal

abbrev pub invariant-lines : goal.invariant-lines
invariant-lines l = record {
  search : IsSearch ends_trailers l.self l.bytes;
  further : l.fn.self.seen ≤ l.self.seen;
  blank : l.self.blank ≡ l.fn.self.blank;
}

abbrev pub decreases-lines : goal.decreases-lines
decreases-lines l = l.stop - l.self.seen
