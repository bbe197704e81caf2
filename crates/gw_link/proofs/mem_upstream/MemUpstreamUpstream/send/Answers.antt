use Rattle.std.proofs.Common.{arith, true, false}
use Rattle.std.proofs.lemmas.Grind.{common_steps}
use Rattle.gw_link.proofs.BecomesLemmas.{becomes_send}
use Rattle.gw_link.proofs.mem_upstream.MemUpstreamUpstream.send.Goals as goal

pub returns-then-is_failing-clause-goes : goal.returns-then-is_failing-clause-goes
returns-then-is_failing-clause-goes c = becomes_send _ _ c.args.piece.now false c.requires.connected (grind (arith, common_steps))

pub returns-in-Ok-clause-goes : goal.returns-in-Ok-clause-goes
returns-in-Ok-clause-goes c = becomes_send _ _ c.args.piece.now true c.requires.connected (grind (arith, common_steps))

pub returns-in-Err-clause-goes : goal.returns-in-Err-clause-goes
returns-in-Err-clause-goes c = becomes_send _ _ c.args.piece.now false c.requires.connected (grind (arith, common_steps))
