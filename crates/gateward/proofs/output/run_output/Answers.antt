-- What is written is the last line of the replay.
use Rattle.std.proofs.Common.{◌∙◌, ap}
use Rattle.gateward.specs.Outputs.{last_line}
use Rattle.gateward.proofs.output.run_output.Goals as goal

pub returns-clause-output : goal.returns-clause-output
returns-clause-output g c = record {
  whole = c.in_ok-whole.whole.text;
  replayed = rw (c.in_ok-doors.ensures, c.in_ok-controller.ensures) at c.in_ok-whole.ensures.replayed;
  text_is = c.in_ok-text.ensures ∙ ap last_line c.bytes.ensures;
}
