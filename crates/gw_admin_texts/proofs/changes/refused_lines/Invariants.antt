-- The refused lines so far, and then those of the rest, are all.
use Rattle.std.proofs.Common.{◌≡◌, ◌+◌, ◌<◌, ◌++◌, length, string_bytes}
use Rattle.std.specs.Option.{option_copied}
use Rattle.gw_store.specs.Lines.{lines_left}
use Rattle.gw_report.specs.RunText.{refused_text}
use Rattle.gw_report.proofs.Applying.{left_size}
use Rattle.gw_admin_texts.specs.model.Submissions.{refused_from, refused_lines}
use Rattle.gw_admin_texts.proofs.changes.refused_lines.Given as goal

abbrev pub invariant-lines : goal.invariant-lines
invariant-lines l = record {
  text : string_bytes l.printed.text ++ refused_text (refused_from l.number (lines_left (option_copied l.rest)) l.left) ≡ refused_text (refused_lines l.body l.answers);
  count : l.printed.refused + length (refused_from l.number (lines_left (option_copied l.rest)) l.left) ≡ length (refused_lines l.body l.answers);
  few : l.printed.refused < l.number;
}

abbrev pub decreases-lines : goal.decreases-lines
decreases-lines l = left_size (option_copied l.rest)
