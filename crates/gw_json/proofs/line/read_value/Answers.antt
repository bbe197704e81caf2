use Rattle.gw_json.proofs.LineLemmas.{value_of-read, value_of-refused}
use Rattle.gw_json.proofs.line.read_value.Goals as goal

pub returns-in-Ok : goal.returns-in-Ok
returns-in-Ok c = value_of-read _ _ c.if-line-gt-MAX_LINE.false c.in-Ok.ensures.ok.0 c.in-Ok.ensures.ok.1

pub returns-in_default : goal.returns-in_default
returns-in_default c = value_of-refused _ c.if-line-gt-MAX_LINE.false (c.in-Err.ensures.err (λ is. c.in_default.not-Memory (c.classify.ensures.memory.1 is)))
