use Rattle.std.proofs.Common.{rules, true, false}
use Rattle.gw_link.proofs.BecomesLemmas.{becomes_connect}
use Rattle.gw_link.proofs.mem_upstream.MemUpstreamUpstream.connect.Goals.{in-Ok, in-Err}
use Rattle.gw_link.proofs.mem_upstream.MemUpstreamUpstream.connect.Goals as goal

pub returns-then-is_failing-clause-goes : goal.returns-then-is_failing-clause-goes
returns-then-is_failing-clause-goes c = becomes_connect _ _ c.args.to false (search rules)

pub returns-clause-goes : goal.returns-clause-goes
returns-clause-goes c = elim c.match-push.branch [
  | in-Ok w ↦ becomes_connect _ _ c.args.to true (search rules)
  | in-Err w ↦ becomes_connect _ _ c.args.to false (search rules)
]
