-- The row was found, so it fits.
use Rattle.gw_decide.specs.Seen.{seen_verdict}
use Rattle.gw_decide.proofs.Serving.{served_path_fits}
use Rattle.gw_decide.proofs.verdict.decide.Goals as goal

pub returns-in-Some-clause-path : goal.returns-in-Some-clause-path
returns-in-Some-clause-path c =
    served_path_fits (seen_verdict c.verdict_by.result) c.in-Some.row.now c.args.t.now c.args.request.now c.verdict_by.ensures c.in-Some.ensures
