-- The passes are those of the opening that was picked, one for each job.
use Rattle.std.proofs.Common.{ap, length, List, ◌+◌, ◌*◌}
use Rattle.gw_text.specs.model.Doors.{Door}
use Rattle.gw_serve.proofs.Passing.{opened_are_of, opened_count}
use Rattle.gw_serve.proofs.serving.serve.Goals as goal

pub serve_opened-requires-clause-of : goal.serve_opened-requires-clause-of
serve_opened-requires-clause-of g c κs within =
    opened_are_of _ _ _ _ _ c.in_ok-controller.ensures.controller c.in_ok-controller.ensures.passes

pub serve_opened-requires-clause-passes : goal.serve_opened-requires-clause-passes
serve_opened-requires-clause-passes g c κs within =
    opened_count _ _ _ _ _ c.args.service.workers c.in_ok-controller.ensures.controller c.in_ok-controller.ensures.passes
    (ap (λ (doors : List Door). 1 + c.args.service.workers * length doors) c.doors-3.ensures.value)
