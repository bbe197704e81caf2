-- Whether a front that ends with an empty line ends a head.
use Rattle.std.proofs.Common.{◌≡◌, true, false, ◌∙◌, arith}
use Rattle.std.proofs.Math.Seq.{take-length}
use Rattle.gw_messages.specs.model.Sections.{are_empty_lines, ends_with_empty_line}
use Rattle.gw_messages.proofs.Sections.{head_is, lines_are}
use Rattle.gw_messages.proofs.section.Search.ends_head.Goals as goal

pub returns-then-not-are_empty_lines-clause-value : goal.returns-then-not-are_empty_lines-clause-value
returns-then-not-are_empty_lines-clause-value c =
    let ends : ends_with_empty_line c.args.front.now ≡ true = cc in
    let lines : are_empty_lines c.args.front.now ≡ false = lines_are _ c.args.self.now.blank _ c.requires.blank c.are_empty_lines.ensures ∙ cc in
    head_is c.args.front.now false ends lines

pub returns-clause-value : goal.returns-clause-value
returns-clause-value c =
    let ends : ends_with_empty_line c.args.front.now ≡ true = cc in
    let lines : are_empty_lines c.args.front.now ≡ true = lines_are _ c.args.self.now.blank _ c.requires.blank c.are_empty_lines.ensures ∙ cc in
    head_is c.args.front.now true ends lines

pub returns-clause-kept : goal.returns-clause-kept
returns-clause-kept c =
    let lines : are_empty_lines c.args.front.now ≡ true = lines_are _ c.args.self.now.blank _ c.requires.blank c.are_empty_lines.ensures ∙ cc in
    record { within = omega arith; blank = rw take-length lines }
