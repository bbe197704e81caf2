use Rattle.std.proofs.Common.{rules}
use Rattle.gw_link.proofs.BecomesLemmas.{becomes_close}
use Rattle.gw_link.proofs.mem_upstream.MemUpstreamUpstream.close.Goals as goal

pub returns-clause-goes : goal.returns-clause-goes
returns-clause-goes c = becomes_close _ _ (search rules)
