-- The next line's end, behind which the section doesn't end.
use Rattle.std.proofs.Common.{sym, ◌∙◌, arith}
use Rattle.gw_messages.specs.model.Sections.{ends_trailers}
use Rattle.gw_messages.proofs.LineEnds.{found_end, none_through, trailers_line}
use Rattle.gw_messages.proofs.section.Search.find_trailers.Goals as goal

pub returns-then-ends_trailers-clause-found : goal.returns-then-ends_trailers-clause-found
returns-then-ends_trailers-clause-found c =
    found_end ends_trailers c.args.bytes.now c.lines.self.seen c.line_end-end.result trailers_line c.lines.invariant.search.none c.line_end-end.ensures (sym c.ends_trailers.ensures ∙ c.if-ends_trailers.true)

pub lines-preserved : goal.lines-preserved
lines-preserved c =
    record {
      search = none_through ends_trailers c.lines.self _ c.args.bytes.now trailers_line c.lines.invariant.search c.line_end-end.ensures (sym c.ends_trailers.ensures ∙ c.if-ends_trailers.false);
      further = omega arith;
      blank = c.lines.invariant.blank;
    }
