-- The fault has its cause, and its line is written behind what came before.
use Rattle.std.proofs.Common.{◌∙◌, Err, ap}
use Rattle.gw_link.proofs.FaultLemmas.{HasRisen-still}
use Rattle.gw_serve.specs.declared.fault.ServeFault.TheVariants.{NoMemory, Start, Write}
use Rattle.gateward.proofs.Serving.{writes_since}
use Rattle.gateward.proofs.run.run_service.Goals as goal

pub returns-in-Err-Write-clause-fault : goal.returns-in-Err-Write-clause-fault
returns-in-Err-Write-clause-fault g c = λ large.
    let leaves = rw c.in-Err-Write.field-0-is at c.in-Err-Write.ensures.leaves in
    let risen = c.serve.ensures.write (c.in-Err-Write.is ∙ ap Err c.in-Err-Write.field-0-is) in
    (Write, (c.end-in-Err-Write.ensures.exit, (HasRisen-still _ _ _ risen c.end-in-Err-Write.ensures.later, (g.K.Sink.written c.serve.new.sink, (leaves, writes_since _ _ _ _ _ _ c.serve.ensures.sink_later c.end-in-Err-Write.ensures.line)))))

pub returns-in-Err-Start-clause-fault : goal.returns-in-Err-Start-clause-fault
returns-in-Err-Start-clause-fault g c = λ large.
    let leaves = rw c.in-Err-Start.field-0-is at c.in-Err-Start.ensures.leaves in
    let risen = c.serve.ensures.start (c.in-Err-Start.is ∙ ap Err c.in-Err-Start.field-0-is) in
    (Start, (c.end-in-Err-Start.ensures.exit, (risen, (g.K.Sink.written c.serve.new.sink, (leaves, writes_since _ _ _ _ _ _ c.serve.ensures.sink_later c.end-in-Err-Start.ensures.line)))))

pub returns-in-Err-NoMemory-clause-fault : goal.returns-in-Err-NoMemory-clause-fault
returns-in-Err-NoMemory-clause-fault g c = λ large.
    let leaves = rw c.in-Err-NoMemory.field-0-is at c.in-Err-NoMemory.ensures.leaves in
    (NoMemory, (c.end-in-Err-NoMemory.ensures.exit, (tt, (g.K.Sink.written c.serve.new.sink, (leaves, writes_since _ _ _ _ _ _ c.serve.ensures.sink_later c.end-in-Err-NoMemory.ensures.line)))))
