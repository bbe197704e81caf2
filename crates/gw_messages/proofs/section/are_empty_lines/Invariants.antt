use Rattle.std.proofs.Common.{◌≡◌, length}
use Rattle.gw_messages.specs.model.Sections.{are_empty_lines}
use Rattle.gw_messages.proofs.section.are_empty_lines.Given as goal

abbrev pub invariant-bytes : goal.invariant-bytes
invariant-bytes l = are_empty_lines l.bytes ≡ are_empty_lines l.left

abbrev pub decreases-bytes : goal.decreases-bytes
decreases-bytes l = length l.left
