-- No connection is open yet.
use Rattle.gw_serve.proofs.Polling.{served_none}
use Rattle.gw_serve.proofs.polled.PolledJob.serve.Goals as goal

pub serve-requires : goal.serve-requires
serve-requires g c = served_none g.V.PollUpstream _ c.args.self.crowd c.args.self.none_open c.args.self.is_there
