-- What came before, and what comes of the rest.
use Rattle.gw_messages.specs.declared.body.Reading.TheVariants.{Chunked}
use Rattle.gw_messages.specs.Readings.{Leads}
use Rattle.gw_messages.proofs.Readings.{on_err, progress_after}
use Rattle.gw_messages.proofs.body.Decoder.read.Goals as goal

pub returns-in_err-progress-clause-err : goal.returns-in_err-progress-clause-err
returns-in_err-progress-clause-err c =
    on_err c.from_residual.result (Leads (Chunked c.args.self.now) c.args.buffer.now (Chunked c.take_next.new.self) c.take_next.new.buffer)
    (λ next body comes. c.parts.invariant next body (c.in_err-progress.ensures.err next body comes))

pub returns-in-Some-clause-progress : goal.returns-in-Some-clause-progress
returns-in-Some-clause-progress c =
    progress_after (Chunked c.args.self.now) (Chunked c.parts.self) (Chunked c.take_next.new.self) c.args.buffer.now c.parts.buffer c.take_next.new.buffer c.in-Some.progress
    c.parts.invariant (rw c.in-Some.is at c.in_ok-progress.ensures.stopped)
