-- What the values give.
use Rattle.std.proofs.Common.{sym, ◌∙◌}
use Rattle.gw_replies.proofs.Lengths.{announced_absent, announced_many, announced_one}
use Rattle.gw_replies.proofs.length.announced_length.Goals as goal

pub returns-in-Absent : goal.returns-in-Absent
returns-in-Absent c = announced_absent c.args.fields.now c.in-Absent.ensures

pub returns-in-One : goal.returns-in-One
returns-in-One c = announced_one c.args.fields.now c.in-One.text _ c.in-One.ensures (sym c.is_one_length.ensures ∙ c.if-not-is_one_length.false) c.wide_number.ensures

pub returns-in-Many : goal.returns-in-Many
returns-in-Many c = announced_many c.args.fields.now c.in-Many.text _ c.in-Many.ensures (sym c.is_one_length.ensures ∙ c.if-not-is_one_length.false) c.wide_number-in-Many.ensures
