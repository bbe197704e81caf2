-- A removal.
use Rattle.gw_deps.proofs.ByKind.{after_removal}
use Rattle.gw_deps.proofs.Results.{if_ok}
use Rattle.gw_deps.proofs.touching.touched.Goals as goal

pub returns-in-Remove : goal.returns-in-Remove
returns-in-Remove c =
    rw c.in-Remove.is (if_ok c.touched_before-in-Remove.result c.touched_before-in-Remove.ensures (λ t before at. after_removal c.args.world.now.world at t c.in-Remove.kind c.in-Remove.key before))
