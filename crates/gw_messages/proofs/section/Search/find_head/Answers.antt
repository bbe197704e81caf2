-- The next line's end, behind which the head doesn't end.
use Rattle.std.proofs.Common.{◌≡◌, ◌≤◌, length, take, sym, ◌∙◌, arith}
use Rattle.std.proofs.lemmas.List.{length-take-le}
use Rattle.gw_messages.specs.model.Sections.{ends_head}
use Rattle.gw_messages.proofs.Sections.{known_before}
use Rattle.gw_messages.proofs.LineEnds.{found_end, head_line, none_through}
use Rattle.gw_messages.proofs.section.Search.find_head.Goals as goal

pub returns-then-ends_head-clause-found : goal.returns-then-ends_head-clause-found
returns-then-ends_head-clause-found c =
    found_end ends_head c.args.bytes.now c.lines.self.seen c.line_end-end.result head_line c.lines.invariant.search.search.none c.line_end-end.ensures (sym c.ends_head.ensures.value ∙ c.if-ends_head.true)

pub lines-preserved : goal.lines-preserved
lines-preserved c =
    let end = c.line_end-end.result in
    let long : length (take end c.args.bytes.now) ≡ end = length-take-le end c.args.bytes.now c.line_end-end.ensures.within in
    let before : c.ends_head.new.self.blank ≤ end = omega (arith, c.ends_head.ensures.kept.within, long) in
    record {
      search = record {
        search = none_through ends_head c.lines.self _ c.args.bytes.now head_line c.lines.invariant.search.search c.line_end-end.ensures (sym c.ends_head.ensures.value ∙ c.if-ends_head.false);
        before = before;
        blank = known_before c.ends_head.new.self.blank end c.args.bytes.now before c.ends_head.ensures.kept.blank;
      };
      further = omega arith;
      blank = omega arith;
    }
