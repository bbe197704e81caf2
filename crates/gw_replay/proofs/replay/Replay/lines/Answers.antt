-- One line more.
use Rattle.std.specs.Option.{option_copied}
use Rattle.gw_store.specs.Lines.{lines_left, lines_of}
use Rattle.gw_report.proofs.Applying.{left_size-shorter}
use Rattle.gw_replay.proofs.Running.{counted_after, few_after, kept_by, runs_none, runs_on, stops_here, stops_on}
use Rattle.gw_replay.specs.States.{StopsIn}
use Rattle.gw_replay.proofs.Stepping.{err_so}
use Rattle.gw_replay.proofs.replay.Replay.lines.Goals as goal

pub lines-preserved : goal.lines-preserved
lines-preserved g c =
    let done = c.in_ok-line.ensures in
    let shorter = left_size-shorter c.first_line.result.1 c.in-Some.text.now c.first_line.ensures.shorter in
    let few = rw c.in-Some.is at c.lines.invariant.few in
    let runs = rw (c.in-Some.is, c.first_line.ensures.cut) at c.lines.invariant.runs in
    let stops = rw (c.in-Some.is, c.first_line.ensures.cut) at c.lines.invariant.stops in
    record {
      runs = λ after new later. runs after new (runs_on c.lines.number c.first_line.result.0.now (lines_left (option_copied c.first_line.result.1)) _ _ after c.lines.self c.line.new.self new done.does later);
      stops = λ stop new later. stops stop new (stops_on stop c.lines.number c.first_line.result.0.now (lines_left (option_copied c.first_line.result.1)) _ _ c.lines.self c.line.new.self new done.does later);
      kept = kept_by c.lines.self c.line.new.self c.lines.invariant.kept done.does.done;
      few = few_after _ _ _ _ shorter few;
      few_counted = counted_after _ _ done.few;
    }

pub returns-clause-runs : goal.returns-clause-runs
returns-clause-runs g c =
    let runs = rw c.in_default.is at c.lines.invariant.runs in
    runs _ _ (runs_none c.lines.number _ c.lines.self)

pub returns-in_err-line-clause-stops : goal.returns-in_err-line-clause-stops
returns-in_err-line-clause-stops g c =
    let stops = rw (c.in-Some.is, c.first_line.ensures.cut) at c.lines.invariant.stops in
    err_so c.from_residual.result c.in_err-line.field-0.0 (λ stop. StopsIn stop 1 (lines_of c.args.input.now) (g.C.Clock.moments c.args.clock.now) c.args.self.now c.line.new.self) c.from_residual.ensures.1
    (stops _ _ (stops_here _ c.lines.number c.first_line.result.0.now (lines_left (option_copied c.first_line.result.1)) _ c.lines.self c.line.new.self c.in_err-line.ensures.stops))
