-- No value, and one alone.
use Rattle.std.proofs.Common.{◌∙◌}
use Rattle.gw_replies.proofs.Lengths.{one_absent, one_alone}
use Rattle.gw_replies.proofs.length.is_one_length.Goals as goal

pub returns-in-Absent : goal.returns-in-Absent
returns-in-Absent c = one_absent _ c.in-Absent.ensures

pub returns-in-One : goal.returns-in-One
returns-in-One c = c.is_number.ensures ∙ one_alone _ c.in-One.text c.in-One.ensures
