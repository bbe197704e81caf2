use Rattle.std.proofs.Common.{length}
use Rattle.gw_messages.specs.Readings.{Leads}
use Rattle.gw_messages.specs.declared.body.Reading.TheVariants.{Chunked}
use Rattle.gw_messages.proofs.body.Decoder.read.Given as goal

abbrev pub invariant-parts : goal.invariant-parts
invariant-parts l = Leads (Chunked l.fn.self) l.fn.buffer (Chunked l.self) l.buffer

abbrev pub decreases-parts : goal.decreases-parts
decreases-parts l = length l.buffer
