use Rattle.std.proofs.Common.{arith, true, false, length}
use Rattle.std.proofs.lemmas.Grind.{common_steps}
use Rattle.gw_link.proofs.BecomesLemmas.{becomes_receive}
use Rattle.gw_link.proofs.mem_upstream.MemUpstreamUpstream.receive.Goals as goal

pub returns-then-is_failing-clause-goes : goal.returns-then-is_failing-clause-goes
returns-then-is_failing-clause-goes c = becomes_receive _ _ (length c.args.buf.now) false c.requires.connected c.requires.any (grind (arith, common_steps))

pub returns-in-Ok-clause-goes : goal.returns-in-Ok-clause-goes
returns-in-Ok-clause-goes c = becomes_receive _ _ (length c.args.buf.now) true c.requires.connected c.requires.any (grind (arith, common_steps))

pub returns-in-Err-clause-goes : goal.returns-in-Err-clause-goes
returns-in-Err-clause-goes c = becomes_receive _ _ (length c.args.buf.now) false c.requires.connected c.requires.any (grind (arith, common_steps))
